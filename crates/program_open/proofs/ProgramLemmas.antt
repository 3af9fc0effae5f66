-- What the loader's answer says of a program that is a file.
use Rattle.std.proofs.Common.{◌≡◌, ◌≢◌, ℕ, List, Ok, Err, refl, ap}
use Rattle.elf_read.specs.File.{loaded_image}
use Rattle.image.specs.Image.{ImageValue, Fails}
use Rattle.image.specs.declared.fault.ElfFault.{ElfFault}
use Rattle.image.specs.declared.fault.ElfFault.TheVariants as elf
use Rattle.program_open.specs.Program.{image_of_file, program_of}
use Rattle.program_open.specs.CommandFaults.{fault_of_elf}
use Rattle.program_open.specs.declared.program.ProgramForm.TheVariants as form
use Rattle.program_open.specs.declared.command_fault.CommandFault.TheVariants as fault

-- a file that loads gives its image
pub file_loads : (bytes : List ℕ) (image : ImageValue) → loaded_image bytes ≡ Ok image → program_of form.Elf bytes ≡ Ok image
file_loads bytes image e = ap image_of_file e

-- a file that is refused gives the loader's fault
pub file_fails : (bytes : List ℕ) (why : ElfFault) → Fails why (loaded_image bytes) → fault_of_elf why ≢ fault.Memory
    → program_of form.Elf bytes ≡ Err (fault_of_elf why)
file_fails bytes elf.Memory h other = absurd (other refl)
file_fails bytes elf.Short h other = ap image_of_file h
file_fails bytes elf.Magic h other = ap image_of_file h
file_fails bytes elf.Class h other = ap image_of_file h
file_fails bytes elf.Encoding h other = ap image_of_file h
file_fails bytes elf.Version h other = ap image_of_file h
file_fails bytes elf.FileType h other = ap image_of_file h
file_fails bytes elf.Machine h other = ap image_of_file h
file_fails bytes elf.Compressed h other = ap image_of_file h
file_fails bytes elf.HeaderSize h other = ap image_of_file h
file_fails bytes elf.OutsideFile h other = ap image_of_file h
file_fails bytes elf.FileOverMem h other = ap image_of_file h
file_fails bytes elf.PastEnd h other = ap image_of_file h
file_fails bytes elf.Overlap h other = ap image_of_file h
file_fails bytes elf.TooLarge h other = ap image_of_file h
file_fails bytes elf.Dynamic h other = ap image_of_file h
file_fails bytes elf.EntryAlign h other = ap image_of_file h
