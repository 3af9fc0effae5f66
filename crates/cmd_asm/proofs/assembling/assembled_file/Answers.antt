use Rattle.cmd_asm.proofs.OwnLemmas.{file_is_own}
use Rattle.cmd_asm.proofs.assembling.assembled_file.Goals as goal

pub returns-in-Ok-write_elf-clause-own : goal.returns-in-Ok-write_elf-clause-own
returns-in-Ok-write_elf-clause-own g c =
    file_is_own _ c.in-Ok.program _ c.in-Ok.ensures.ok c.in-Ok-write_elf.ensures.layout
