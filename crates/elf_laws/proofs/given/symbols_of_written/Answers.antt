use Rattle.elf_laws.proofs.GivenLemmas.{come_back}
use Rattle.elf_laws.proofs.given.symbols_of_written.Goals as goal

pub returns : goal.returns
returns c = come_back
