use Rattle.std.proofs.Common.{◌≡◌, ◌++◌, ◌+◌, ◌*◌, ◌-◌}
use Rattle.elf_read.specs.ProgramHeader.{program_headers_from}
use Rattle.elf_read.proofs.program_header.read_program_headers.Given as goal

abbrev pub invariant-headers : goal.invariant-headers
invariant-headers g l = (l.at ≡ l.place + 32 * l.counter) × (l.headers.items ++ program_headers_from l.bytes l.at (l.count - l.counter) ≡ program_headers_from l.bytes l.place l.count)
