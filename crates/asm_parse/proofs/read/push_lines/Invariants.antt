use Rattle.std.proofs.Common.{◌≡◌, ◌≤◌, ◌+◌, ◌-◌, [], length, drop, map}
use Rattle.asm_lex.specs.Lexemes.{lexed, seen}
use Rattle.asm_statement.specs.Statements.{read_from}
use Rattle.asm_parse.proofs.read.push_lines.Given as goal

abbrev pub invariant-lexemes : goal.invariant-lexemes
invariant-lexemes g l = record {
  counted : l.place.line ≤ l.at + 1;
  same : read_from l.place l.statements.items (map seen l.part.items) (lexed 0 (drop l.at l.text)) ≡ read_from l.initial.place l.initial.statements.items [] (lexed 0 l.text);
}

abbrev pub decreases-lexemes : goal.decreases-lexemes
decreases-lexemes g l = length l.text - l.at
