use Rattle.std.proofs.Common.{◌≡◌, drop, map}
use Rattle.asm_lex.specs.Lexemes.{seen}
use Rattle.asm_statement.specs.Shapes.{value}
use Rattle.asm_statement.specs.Directives.{each, comma_separated, parts_seen}
use Rattle.asm_parse.proofs.directives.values.Given as goal

abbrev pub invariant-parts : goal.invariant-parts
invariant-parts g l = each value l.values.items (parts_seen (drop l.part-index l.part-items)) ≡ comma_separated value (map seen l.lexemes)
