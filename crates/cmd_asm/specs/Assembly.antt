-- The program of sources, its listing and its file, or the first fault.
use Rattle.std.specs.Prelude.{◌≡◌, ℕ, ◌%◌, List, [], ◌∷◌, take, Option, Some, None}
use Rattle.std.specs.Io.KnownBytes.{Appends}
use Rattle.std.specs.declared.result.Result.{Result}
use Rattle.std.specs.declared.result.Result.TheVariants.{Ok, Err}
use Rattle.asm_statement.specs.declared.fault.Fault.{Fault}
use Rattle.asm_assemble.specs.Program.{ProgramValue}
use Rattle.asm_assemble.specs.Sources.{assembled_texts}
use Rattle.asm_assemble.specs.Program.{text_start}
use Rattle.elf_write.specs.File.{file}
use Rattle.isa_disasm.specs.Listing.{listing}
use Rattle.asm_laws.specs.Own.{ListsOwn, LoadsOwn}
use Rattle.asm_round_trip.specs.TextAlone.{text_alone}
use Rattle.cmd_asm.specs.Sources.{first_other}
use Rattle.cmd_asm.specs.declared.fault.AssemblyFault.{AssemblyFault}
use Rattle.cmd_asm.specs.declared.fault.AssemblyFault.TheVariants as faults

-- the program, or the statement that is wrong
abbrev pub from_statements : Result ProgramValue Fault → Result ProgramValue AssemblyFault
from_statements (Ok program) = Ok program
from_statements (Err why) = Err (faults.Wrong why)

-- the program of sources, of which the first that isn't UTF-8 is at this index
abbrev pub program_unless : List (List ℕ) → Option ℕ → Result ProgramValue AssemblyFault
program_unless sources None = from_statements (assembled_texts sources)
program_unless sources (Some place) = Err (faults.NotText place)

-- the program of sources, or the fault
abbrev pub program_of_sources : List (List ℕ) → Result ProgramValue AssemblyFault
program_of_sources sources = program_unless sources (first_other 0 sources)

-- the bytes that a program gives
abbrev pub bytes_from : (ProgramValue → List ℕ) → Result ProgramValue AssemblyFault → Result (List ℕ) AssemblyFault
bytes_from bytes (Ok program) = Ok (bytes program)
bytes_from bytes (Err why) = Err why

-- the listing of sources' program
abbrev pub listing_of : List (List ℕ) → Result (List ℕ) AssemblyFault
listing_of sources = bytes_from (λ program. listing text_start program.text) (program_of_sources sources)

-- the listing of a program, as the only source, gives a program with the same text and nothing else
abbrev pub ComesBack : Result ProgramValue AssemblyFault → Type 0
ComesBack (Ok program) = assembled_texts (listing text_start program.text ∷ []) ≡ Ok (text_alone program.text)
ComesBack (Err why) = Unit {0}

-- the ELF file of sources' program
abbrev pub file_of : List (List ℕ) → Result (List ℕ) AssemblyFault
file_of sources = bytes_from file (program_of_sources sources)

-- a fault of what was read, not of a device and not out of memory
abbrev pub IsSourceFault : AssemblyFault → Type 0
IsSourceFault (faults.Wrong why) = Unit {0}
IsSourceFault (faults.Read place) = ⊥
IsSourceFault (faults.NotText place) = Unit {0}
IsSourceFault faults.Write = ⊥
IsSourceFault faults.Memory = ⊥

-- the bytes were appended
abbrev pub WritesResult : Result (List ℕ) AssemblyFault → Option (List ℕ) → Option (List ℕ) → Type 0
WritesResult (Ok bytes) old new = Appends old new bytes
WritesResult (Err why) old new = ⊥

-- a beginning of these bytes was appended
abbrev pub AppendsBeginning : Option (List ℕ) → Option (List ℕ) → List ℕ → Type 0
AppendsBeginning old new bytes = (n : ℕ) × Appends old new (take n bytes)

-- a beginning of the bytes was appended
abbrev pub BeginsToWrite : Result (List ℕ) AssemblyFault → Option (List ℕ) → Option (List ℕ) → Type 0
BeginsToWrite (Ok bytes) old new = AppendsBeginning old new bytes
BeginsToWrite (Err why) old new = ⊥

-- a program's file, if its entry is a multiple of 4, loads as the sources' own instructions
abbrev pub FileIsOwn : List (List ℕ) → List ℕ → Result ProgramValue AssemblyFault → Type 0
FileIsOwn sources bytes (Ok program) = program.entry % 4 ≡ 0 → LoadsOwn sources program bytes
FileIsOwn sources bytes (Err why) = ⊥

-- such a file was appended
abbrev pub WritesOwnFile : List (List ℕ) → Option (List ℕ) → Option (List ℕ) → Type 0
WritesOwnFile sources old new = (bytes : List ℕ) × Appends old new bytes × FileIsOwn sources bytes (program_of_sources sources)

-- the lines have the sources' own instructions
abbrev pub LinesAreOwn : List (List ℕ) → List ℕ → Result ProgramValue AssemblyFault → Type 0
LinesAreOwn sources lines (Ok program) = ListsOwn sources program lines
LinesAreOwn sources lines (Err why) = ⊥

-- such lines were appended
abbrev pub WritesOwnLines : List (List ℕ) → Option (List ℕ) → Option (List ℕ) → Type 0
WritesOwnLines sources old new = (lines : List ℕ) × Appends old new lines × LinesAreOwn sources lines (program_of_sources sources)
