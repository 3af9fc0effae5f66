use Rattle.std.proofs.Common.{◌≡◌, ◌++◌, drop, map, filter}
use Rattle.elf_read.specs.ProgramHeader.{is_load, header_span}
use Rattle.elf_read.proofs.program_header.load_spans.Given as goal

abbrev pub invariant-headers : goal.invariant-headers
invariant-headers g l = l.spans.items ++ map header_span (filter is_load (drop l.header-index l.headers)) ≡ map header_span (filter is_load l.headers)
