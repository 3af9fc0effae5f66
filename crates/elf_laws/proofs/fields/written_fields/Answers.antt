use Rattle.elf_laws.proofs.FieldsLemmas.{written}
use Rattle.elf_laws.proofs.fields.written_fields.Goals as goal

pub returns : goal.returns
returns c = written
