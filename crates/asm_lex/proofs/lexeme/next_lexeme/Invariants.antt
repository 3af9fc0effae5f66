use Rattle.std.proofs.Common.{◌≡◌, ◌≤◌, ◌-◌, length, drop}
use Rattle.asm_lex.specs.Lexemes.{lexed}
use Rattle.asm_lex.proofs.lexeme.next_lexeme.Given as goal

abbrev pub invariant-gaps : goal.invariant-gaps
invariant-gaps l = record {
  reached : l.from ≤ l.at;
  same : lexed 0 (drop l.from l.source) ≡ lexed 0 (drop l.at l.bytes);
}

abbrev pub decreases-gaps : goal.decreases-gaps
decreases-gaps l = length l.bytes - l.at
