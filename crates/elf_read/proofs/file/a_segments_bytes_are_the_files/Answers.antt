use Rattle.elf_read.proofs.FileLemmas.{file_bytes}
use Rattle.elf_read.proofs.file.a_segments_bytes_are_the_files.Goals as goal

pub returns : goal.returns
returns c = file_bytes
