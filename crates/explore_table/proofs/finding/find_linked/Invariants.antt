use Rattle.std.proofs.Common.{◌≤◌, length}
use Rattle.explore_table.specs.Links.{IsSought}
use Rattle.explore_table.proofs.finding.find_linked.Given as goal

abbrev pub invariant-links : goal.invariant-links
invariant-links g l = record {
  sought : IsSought (length l.heads) l.rows l.key l.link;
  within : l.link ≤ length l.rows;
  linked : l.link ≤ length l.befores;
}

abbrev pub decreases-links : goal.decreases-links
decreases-links g l = l.link
