use Rattle.std.proofs.Common.{◌≡◌, ◌≤◌, ◌-◌, length, drop, map}
use Rattle.asm_lex.specs.Lexemes.{seen}
use Rattle.asm_statement.specs.Statements.{labels_from}
use Rattle.asm_parse.proofs.read.push_labels.Given as goal

abbrev pub invariant-labels : goal.invariant-labels
invariant-labels g l = record {
  within : l.at ≤ length l.lexemes;
  same : labels_from l.place l.statements.items (map seen (drop l.at l.lexemes)) ≡ labels_from l.place l.initial.statements.items (map seen l.lexemes);
}

abbrev pub decreases-labels : goal.decreases-labels
decreases-labels g l = length l.lexemes - l.at
