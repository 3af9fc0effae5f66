use Rattle.std.proofs.Common.{◌≡◌, ◌≤◌, ◌-◌, take, drop, map}
use Rattle.asm_lex.specs.Lexemes.{seen}
use Rattle.asm_statement.specs.Directives.{parts, parts_from, parts_seen}
use Rattle.asm_parse.proofs.directives.parts.Given as goal

abbrev pub invariant-lexemes : goal.invariant-lexemes
invariant-lexemes g l = record {
  ordered : l.start ≤ l.i;
  same : parts_from (parts_seen l.parts.items) (map seen (take (l.i - l.start) (drop l.start l.lexemes))) (map seen (drop l.i l.lexemes)) ≡ parts (map seen l.lexemes);
}
