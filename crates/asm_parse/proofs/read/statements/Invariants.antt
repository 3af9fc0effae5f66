use Rattle.std.proofs.Common.{◌≡◌, drop}
use Rattle.asm_statement.specs.Statements.{sources_from, statements_of, texts_of}
use Rattle.asm_parse.proofs.read.statements.Given as goal

abbrev pub invariant-sources : goal.invariant-sources
invariant-sources g l = sources_from l.source l.statements.items (texts_of (drop l.source l.sources)) ≡ statements_of (texts_of l.sources)
