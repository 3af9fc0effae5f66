-- The image of a program in one of its forms, or its fault.
use Rattle.std.specs.Prelude.{ℕ, List}
use Rattle.std.specs.declared.result.Result.{Result}
use Rattle.std.specs.declared.result.Result.TheVariants.{Ok, Err}
use Rattle.elf_read.specs.File.{loaded_image}
use Rattle.image.specs.Image.{ImageValue}
use Rattle.image.specs.declared.fault.ElfFault.{ElfFault}
use Rattle.program_open.specs.HexImage.{hex_image_of}
use Rattle.program_open.specs.HexText.{hex_words}
use Rattle.program_open.specs.CommandFaults.{fault_of_elf, fault_of_hex}
use Rattle.program_open.specs.declared.hex.HexFault.{HexFault}
use Rattle.program_open.specs.declared.program.ProgramForm.{ProgramForm}
use Rattle.program_open.specs.declared.program.ProgramForm.TheVariants as form
use Rattle.program_open.specs.declared.command_fault.CommandFault.{CommandFault}

-- the image of words, if they are valid
abbrev pub image_of_hex : Result (List ℕ) HexFault → Result ImageValue CommandFault
image_of_hex (Ok words) = Ok (hex_image_of words)
image_of_hex (Err why) = Err (fault_of_hex why)

-- the image of a file, if it loads
abbrev pub image_of_file : Result ImageValue ElfFault → Result ImageValue CommandFault
image_of_file (Ok image) = Ok image
image_of_file (Err why) = Err (fault_of_elf why)

-- the image of a program
abbrev pub program_of : ProgramForm → List ℕ → Result ImageValue CommandFault
program_of form.Hex bytes = image_of_hex (hex_words bytes)
program_of form.Elf bytes = image_of_file (loaded_image bytes)
