use Rattle.std.proofs.Common.{◌≡◌, ◌++◌, drop}
use Rattle.elf_write.specs.Field.{bytes_of_all}
use Rattle.elf_write.proofs.field.write_fields.Given as goal

abbrev pub invariant-fields : goal.invariant-fields
invariant-fields g l = l.out.items ++ bytes_of_all (drop l.field-index l.fields) ≡ l.initial.out.items ++ bytes_of_all l.fields
