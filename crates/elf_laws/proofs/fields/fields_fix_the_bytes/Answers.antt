use Rattle.elf_laws.proofs.SameLemmas.{fixed}
use Rattle.elf_laws.proofs.fields.fields_fix_the_bytes.Goals as goal

pub returns : goal.returns
returns c = fixed
