use Rattle.std.proofs.Common.{◌≡◌, drop}
use Rattle.std.specs.List.{find}
use Rattle.elf_read.specs.Section.{is_symbol_table}
use Rattle.elf_read.proofs.section.find_symbol_table.Given as goal

abbrev pub invariant-sections : goal.invariant-sections
invariant-sections l = find is_symbol_table (drop l.section-index l.sections) ≡ find is_symbol_table l.sections
