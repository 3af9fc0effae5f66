use Rattle.std.proofs.Common.{◌≡◌, drop, map}
use Rattle.asm_lex.specs.Lexemes.{seen}
use Rattle.asm_statement.specs.Directives.{texts, texts_from, parts_seen}
use Rattle.asm_parse.proofs.directives.texts.Given as goal

abbrev pub invariant-parts : goal.invariant-parts
invariant-parts g l = texts_from l.ended l.bytes.items (parts_seen (drop l.part-index l.part-items)) ≡ texts l.ended (map seen l.lexemes)
