-- The names that a text gives its symbols, and that a written file gives each of them back.
use Rattle.std.specs.Prelude.{◌≡◌, ℕ, ◌+◌, ◌^◌, ◌<◌, ◌≤◌, true, false, List, [], ◌∷◌, length, map, slice_index, Ok}
use Rattle.std.specs.List.{list_all}
use Rattle.asm_lex.specs.Bytes.{is_digit, is_name_byte}
use Rattle.asm_assemble.specs.Program.{ProgramValue, SymbolList}
use Rattle.asm_assemble.specs.Sources.{assembled_texts}
use Rattle.elf_read.specs.SymbolTable.{symbols_of}
use Rattle.elf_laws.specs.Fields.{listed_symbols, memory_size}
use Rattle.elf_laws.specs.Given.{AreNamed, symbol_given}

-- a name as a text has it: ASCII letters, digits, `_`, `.` and `$`, at least one, the first no
-- digit
pub record IsWord (name : List ℕ) : Type 0 where
  pub some : 0 < length name
  pub no_digit_first : is_digit (slice_index name 0) ≡ false
  pub each : list_all is_name_byte name ≡ true

abbrev pub AreWords : SymbolList → Type 0
AreWords [] = Unit {0}
AreWords (s ∷ ss) = IsWord s.0 × AreWords ss

-- a program's symbols have such names, which a table of names holds, and addresses of 32 bits; it
-- is within the limit and begins at an address
pub record HasNames (p : ProgramValue) : Type 0 where
  pub words : AreWords p.symbols
  pub named : AreNamed p.symbols
  pub within : length p.text + memory_size p ≤ 2 ^ 24
  pub entry : p.entry < 2 ^ 32

-- ---- laws

-- so has each text's program
abbrev pub LabelsAreNames : Type 0
LabelsAreNames = (texts : List (List ℕ)) (p : ProgramValue) → assembled_texts texts ≡ Ok p → HasNames p

-- the file of each text's program gives all of its symbols, where it has fewer than 2^32 bytes
abbrev pub TextsSymbolsComeBack : (ProgramValue → List ℕ) → Type 0
TextsSymbolsComeBack file =
    (texts : List (List ℕ)) (p : ProgramValue) → assembled_texts texts ≡ Ok p → length (file p) < 2 ^ 32
    → symbols_of (file p) ≡ Ok (map symbol_given (listed_symbols p.symbols))
