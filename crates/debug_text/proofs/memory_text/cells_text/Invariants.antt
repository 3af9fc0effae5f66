use Rattle.std.proofs.Common.{◌≡◌, ◌++◌, ◌%◌, ◌-◌, string_bytes}
use Rattle.debug_text.specs.Texts.{cells_text}
use Rattle.debug_text.proofs.memory_text.cells_text.Given as goal

-- the text so far, and then the words that are left
abbrev pub invariant-cells : goal.invariant-cells
invariant-cells g l = record {
  aligned : l.place % 4 ≡ 0;
  left : string_bytes l.text ++ cells_text (g.S.Store.memory l.store) l.place (l.count - l.counter) ≡ cells_text (g.S.Store.memory l.store) l.address l.count;
}
