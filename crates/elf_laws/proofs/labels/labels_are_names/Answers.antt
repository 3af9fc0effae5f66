use Rattle.elf_laws.proofs.Symbols.{names}
use Rattle.elf_laws.proofs.labels.labels_are_names.Goals as goal

pub returns : goal.returns
returns c = names
