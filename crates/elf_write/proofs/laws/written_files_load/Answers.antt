use Rattle.elf_write.proofs.LoadLemmas.{loads_back}
use Rattle.elf_write.proofs.laws.written_files_load.Goals as goal

pub returns : goal.returns
returns c = loads_back
