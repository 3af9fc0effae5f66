use Rattle.std.proofs.Common.{◌≡◌, ◌++◌, drop, map, filter}
use Rattle.elf_read.specs.ProgramHeader.{is_loaded_segment}
use Rattle.elf_read.specs.File.{segment_of}
use Rattle.elf_read.proofs.file.segments_of.Given as goal

abbrev pub invariant-headers : goal.invariant-headers
invariant-headers g l = l.segments.items ++ map (segment_of l.bytes) (filter is_loaded_segment (drop l.header-index l.headers)) ≡ map (segment_of l.bytes) (filter is_loaded_segment l.headers)
