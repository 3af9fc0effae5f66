use Rattle.std.proofs.Common.{◌≡◌, ◌≤◌, length}
use Rattle.explore_table.specs.Links.{IsLinkedTo}
use Rattle.explore_table.proofs.linking.link_all.Given as goal

-- the rows before this one are linked
abbrev pub invariant-rows : goal.invariant-rows
invariant-rows g l = record {
  linked : IsLinkedTo l.number l.rows l.befores l.heads;
  within : l.number ≤ length l.rows;
  befores_len : length l.befores ≡ length l.fn.befores;
  heads_len : length l.heads ≡ length l.fn.heads;
}
