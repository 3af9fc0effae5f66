use Rattle.std.proofs.Common.{◌≡◌, ◌++◌, ◌+◌, ◌*◌, ◌-◌}
use Rattle.elf_read.specs.Section.{sections_from}
use Rattle.elf_read.proofs.section.read_sections.Given as goal

abbrev pub invariant-sections : goal.invariant-sections
invariant-sections g l = (l.at ≡ l.place + 40 * l.counter) × (l.sections.items ++ sections_from l.bytes l.at (l.count - l.counter) ≡ sections_from l.bytes l.place l.count)
