-- What is written has the sources' own instructions.
use Rattle.std.proofs.Common.{◌≡◌, ℕ, List, Option, Some, None, IfSome, Ok, Err, Result, sym, subst, ap}
use Rattle.std.specs.Io.KnownBytes.{Appends}
use Rattle.asm_statement.specs.declared.fault.Fault.{Fault}
use Rattle.asm_assemble.specs.Program.{ProgramValue}
use Rattle.asm_assemble.specs.Sources.{assembled_texts}
use Rattle.elf_write.specs.File.{file}
use Rattle.isa_disasm.specs.Listing.{listing}
use Rattle.asm_laws.proofs.OwnLemmas.{written, listed}
use Rattle.asm_laws.specs.Own.{LoadsOwn}
use Rattle.cmd_asm.specs.Assembly.{from_statements, program_of_sources, program_unless, FileIsOwn, LinesAreOwn, WritesOwnFile, WritesOwnLines}
use Rattle.cmd_asm.specs.Sources.{first_other}
use Rattle.cmd_asm.specs.declared.fault.AssemblyFault.{AssemblyFault}

abbrev programs : ProgramValue → Result ProgramValue AssemblyFault
programs p = Ok p

same_program : (p q : ProgramValue) → programs p ≡ programs q → p ≡ q
same_program p q e = cc

assembled_is : (r : Result ProgramValue Fault) (p : ProgramValue) → from_statements r ≡ Ok p → r ≡ Ok p
assembled_is (Ok q) p e = ap (λ (p : ProgramValue). Ok p) (same_program q p e)
assembled_is (Err why) p e = absurd cc

unless_is : (sources : List (List ℕ)) (o : Option ℕ) (p : ProgramValue) → program_unless sources o ≡ Ok p → assembled_texts sources ≡ Ok p
unless_is sources None p e = assembled_is (assembled_texts sources) p e
unless_is sources (Some place) p e = absurd cc

pub file_is_own : (all : Option (List (List ℕ))) (p : ProgramValue) (bytes : List ℕ) → IfSome all (λ all. program_of_sources all ≡ Ok p) → bytes ≡ file p
    → IfSome all (λ all. FileIsOwn all bytes (program_of_sources all))
file_is_own None p bytes e is = tt
file_is_own (Some all) p bytes e is =
    subst (FileIsOwn all bytes) (sym e) (λ aligned. subst (LoadsOwn all p) (sym is) (written all p (unless_is all (first_other 0 all) p e) aligned))

pub lines_are_own : (all : Option (List (List ℕ))) (p : ProgramValue) (old new : Option (List ℕ)) → IfSome all (λ all. program_of_sources all ≡ Ok p) → Appends old new (listing 0x10000 p.text)
    → IfSome all (λ all. WritesOwnLines all old new)
lines_are_own None p old new e h = tt
lines_are_own (Some all) p old new e h =
    (listing 0x10000 p.text, h, subst (LinesAreOwn all (listing 0x10000 p.text)) (sym e) (listed all p (unless_is all (first_other 0 all) p e)))

pub file_is_written : (all : Option (List (List ℕ))) (bytes : List ℕ) (old new : Option (List ℕ)) → IfSome all (λ all. FileIsOwn all bytes (program_of_sources all)) → Appends old new bytes
    → IfSome all (λ all. WritesOwnFile all old new)
file_is_written None bytes old new own h = tt
file_is_written (Some all) bytes old new own h = (bytes, h, own)
