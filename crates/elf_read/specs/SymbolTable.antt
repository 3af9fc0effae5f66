-- The symbols of a file.
use Rattle.std.specs.Prelude.{◌≡◌, ℕ, zero, suc, ◌+◌, ◌*◌, ◌/◌, ◌%◌, Bool, true, false, not, ◌||◌, ◌==◌, nat_lt, List, [], ◌∷◌, ◌++◌, length, drop, Option, Some, None, Result, Ok, Err, Vec}
use Rattle.std.specs.List.{find, slice_get}
use Rattle.elf_read.specs.Name.{name_in}
use Rattle.elf_read.specs.Number.{word_at, half_at}
use Rattle.elf_read.specs.Section.{sections_from, is_symbol_table, ends_behind_file, section_bytes}
use Rattle.elf_read.specs.Symbol.{SymbolValue}
use Rattle.elf_read.specs.SymbolFields.{read_symbol}
use Rattle.elf_read.specs.Codes.{E_SHOFF, E_SHNUM, E_SHENTSIZE, HEADER_SIZE, SECTION_HEADER_SIZE, SYMBOL_SIZE, SHT_STRTAB, ST_NAME}
use Rattle.elf_read.specs.declared.section.SectionHeader.{SectionHeader}
use Rattle.elf_read.specs.declared.symbol.SymFault.{SymFault}
use Rattle.elf_read.specs.declared.symbol.SymFault.TheVariants as faults

-- the symbols of a file, or the reason why there are none
abbrev pub Symbols : Type 0
Symbols = Result (List SymbolValue) SymFault

-- the fault if the test holds, else the answer of the later checks
abbrev pub refused_if : Bool → SymFault → Symbols → Symbols
refused_if true fault later = Err fault
refused_if false fault later = later

-- some symbols and one more, which is made of its name, unless that is empty
abbrev pub added : List SymbolValue → List ℕ → (List ℕ → SymbolValue) → List SymbolValue
added done [] of_name = done
added done (b ∷ bs) of_name = done ++ of_name (b ∷ bs) ∷ []

-- the answer for a name, if there is one
abbrev pub with_name : Option (List ℕ) → (List ℕ → Symbols) → Symbols
with_name None later = Err faults.BadTable
with_name (Some name) later = later name

-- the named ones of this many symbols from an offset on, after those already read
unfoldable pub symbols_from : List ℕ → List ℕ → List SymbolValue → ℕ → ℕ → Symbols
symbols_from names bytes done place zero = Ok done
symbols_from names bytes done place (suc n) =
    with_name (name_in (drop (word_at bytes (place + ST_NAME)) names)) (λ name.
    symbols_from names bytes (added done name (read_symbol bytes place)) (place + SYMBOL_SIZE) n)

-- whether a symbol table's sizes are invalid, or it lies past the end of a file of n bytes
abbrev pub is_bad_table : ℕ → SectionHeader → Bool
is_bad_table n table =
    not (table.entry_size == SYMBOL_SIZE) || not (table.size % SYMBOL_SIZE == 0) || ends_behind_file n table

-- the symbols of a table whose names are in the section that it links to
abbrev pub symbols_named : List ℕ → SectionHeader → Option SectionHeader → Symbols
symbols_named bytes table None = Err faults.BadTable
symbols_named bytes table (Some names) =
    refused_if (not (names.kind == SHT_STRTAB) || ends_behind_file (length bytes) names) faults.BadTable
    (symbols_from (section_bytes bytes names) bytes [] table.offset (table.size / SYMBOL_SIZE))

-- the symbols of a symbol table, if there is one
abbrev pub symbols_of_table : List ℕ → List SectionHeader → Option SectionHeader → Symbols
symbols_of_table bytes sections None = Err faults.NoTable
symbols_of_table bytes sections (Some table) =
    refused_if (is_bad_table (length bytes) table) faults.BadTable
    (symbols_named bytes table (slice_get sections table.link))

-- the symbols of the first symbol table of these sections
unfoldable pub symbols_in : List ℕ → List SectionHeader → Symbols
symbols_in bytes sections = symbols_of_table bytes sections (find is_symbol_table sections)

-- whether the sections' size is invalid, or their headers lie past the end of the file
abbrev pub are_bad_sections : List ℕ → Bool
are_bad_sections bytes =
    not (half_at bytes E_SHENTSIZE == SECTION_HEADER_SIZE)
    || nat_lt (length bytes) (word_at bytes E_SHOFF + SECTION_HEADER_SIZE * half_at bytes E_SHNUM)

-- the symbols of a file
unfoldable pub symbols_of : List ℕ → Symbols
symbols_of bytes =
    refused_if (nat_lt (length bytes) HEADER_SIZE) faults.BadTable (
    refused_if (word_at bytes E_SHOFF == 0 || half_at bytes E_SHNUM == 0) faults.NoTable (
    refused_if (are_bad_sections bytes) faults.BadTable
    (symbols_in bytes (sections_from bytes (word_at bytes E_SHOFF) (half_at bytes E_SHNUM)))))

-- an answer is the expected one, or out of memory
abbrev pub IsGiven : {Z : Type 0} → Result (Vec SymbolValue Z) SymFault → Symbols → Type 0
IsGiven (Ok v) expected = expected ≡ Ok v.items
IsGiven (Err faults.NoTable) expected = expected ≡ Err faults.NoTable
IsGiven (Err faults.BadTable) expected = expected ≡ Err faults.BadTable
IsGiven (Err faults.Memory) expected = Unit {0}
