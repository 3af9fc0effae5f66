use Rattle.std.proofs.Common.{◌≡◌, drop, map}
use Rattle.asm_lex.specs.Lexemes.{seen}
use Rattle.asm_statement.specs.Shapes.{number}
use Rattle.asm_statement.specs.Directives.{each, comma_separated, parts_seen}
use Rattle.asm_parse.proofs.directives.numbers.Given as goal

abbrev pub invariant-parts : goal.invariant-parts
invariant-parts g l = each number l.numbers.items (parts_seen (drop l.part-index l.part-items)) ≡ comma_separated number (map seen l.lexemes)
