use Rattle.elf_laws.proofs.Symbols.{back}
use Rattle.elf_laws.proofs.labels.symbols_come_back.Goals as goal

pub returns : goal.returns
returns c = back
