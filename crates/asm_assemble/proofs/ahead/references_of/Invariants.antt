use Rattle.std.proofs.Common.{◌≡◌, ℕ, ◌-◌, List, drop}
use Rattle.std.specs.Prelude.{reverse}
use Rattle.asm_assemble.specs.Program.{symbol_list}
use Rattle.asm_assemble.specs.Operands.{found}
use Rattle.asm_assemble.specs.Ahead.{ahead_in, references}
use Rattle.asm_assemble.proofs.ahead.references_of.Given as goal

abbrev pub invariant-statements : goal.invariant-statements
invariant-statements g l = record {
  labels : (q : List ℕ) → found (symbol_list l.after.entries) q ≡ ahead_in (drop (l.count - l.done) l.addresses) (drop (l.count - l.done) l.statements) q;
  made : reverse l.all.items ≡ references (drop (l.count - l.done) l.addresses) (drop (l.count - l.done) l.statements);
}
