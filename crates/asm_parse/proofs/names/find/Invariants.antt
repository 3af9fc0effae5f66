use Rattle.std.proofs.Common.{◌≡◌, drop}
use Rattle.asm_statement.specs.Names.{first_named, named_rows}
use Rattle.asm_parse.proofs.names.find.Given as goal

abbrev pub invariant-rows : goal.invariant-rows
invariant-rows g l = first_named (named_rows (drop l.text-index l.rows)) l.name ≡ first_named (named_rows l.rows) l.name
