-- A written file, each field at its place: its offset in the file, its width in bytes, its value.
use Rattle.std.specs.Prelude.{◌≡◌, ℕ, ◌+◌, ◌*◌, ◌-◌, ◌%◌, ◌^◌, ◌<◌, ◌≤◌, ◌==◌, if◌then◌else◌, not, List, [], ◌∷◌, ◌++◌, length, take, drop, filter, replicate, codes}
use Rattle.std.specs.List.{All, sum_by}
use Rattle.byteorder.specs.Endian.{little_number}
use Rattle.asm_statement.specs.declared.statement.Section.{Section}
use Rattle.asm_statement.specs.declared.statement.Section.TheVariants as section
use Rattle.asm_assemble.specs.Program.{ProgramValue, SymbolList, round_up, segment_size}
use Rattle.asm_assemble.specs.declared.program.Symbol.{Symbol}

-- a field: how far it is behind the place of its header, how many bytes it has, and its value
pub record FieldRow : Type 0 where
  pub offset : ℕ
  pub width : ℕ
  pub value : ℕ

abbrev pub byte : ℕ → ℕ → FieldRow
byte offset value = record { offset = offset; width = 1; value = value }

abbrev pub half : ℕ → ℕ → FieldRow
half offset value = record { offset = offset; width = 2; value = value }

abbrev pub word : ℕ → ℕ → FieldRow
word offset value = record { offset = offset; width = 4; value = value }

-- the bytes at the field's place are its value, the lowest first
pub record Stands (bytes : List ℕ) (place : ℕ) (row : FieldRow) : Type 0 where
  pub within : place + row.offset + row.width ≤ length bytes
  pub is : little_number row.width (drop (place + row.offset) bytes) ≡ row.value

-- the fields of a header that is at a place
abbrev pub AllStand : List ℕ → ℕ → List FieldRow → Type 0
AllStand bytes place [] = Unit {0}
AllStand bytes place (row ∷ rows) = Stands bytes place row × AllStand bytes place rows

-- these bytes are at a place
abbrev pub HasBytesAt : List ℕ → ℕ → List ℕ → Type 0
HasBytesAt bytes place part = take (length part) (drop place bytes) ≡ part

-- ---- where the parts stand
-- how far the data begins behind the text, in memory and in the file
abbrev pub data_place : ProgramValue → ℕ
data_place p = round_up (length p.text) 4096

-- the size of the segment of data and zeros
abbrev pub memory_size : ProgramValue → ℕ
memory_size p = segment_size (length p.bytes) p.zeros

abbrev pub end_of_data : ProgramValue → ℕ
end_of_data p = 4096 + data_place p + length p.bytes

abbrev pub symbols_place : ProgramValue → ℕ
symbols_place p = round_up (end_of_data p) 4

-- the symbols as they are listed: first those that other files do not see, both in order of
-- definition
abbrev pub local_symbols : SymbolList → SymbolList
local_symbols ss = filter (λ s. not s.1.global) ss

abbrev pub listed_symbols : SymbolList → SymbolList
listed_symbols ss = local_symbols ss ++ filter (λ s. s.1.global) ss

-- how many bytes the names of symbols take, each ended by a zero byte
abbrev pub names_size : SymbolList → ℕ
names_size ss = sum_by (λ s. length s.0 + 1) ss

-- one symbol more than there are, of 16 bytes each
abbrev pub names_place : ProgramValue → ℕ
names_place p = symbols_place p + 16 * (1 + length (listed_symbols p.symbols))

abbrev pub section_names_place : ProgramValue → ℕ
section_names_place p = names_place p + (1 + names_size (listed_symbols p.symbols))

abbrev pub sections_place : ProgramValue → ℕ
sections_place p = round_up (section_names_place p + 44) 4

-- ---- the fields
-- how many program headers there are
abbrev pub program_headers : ProgramValue → ℕ
program_headers p = (if length p.text == 0 then 0 else 1) + (if memory_size p == 0 then 0 else 1)

-- the file's header: 7F 45 4C 46, 32 bits, lowest byte first, version 1, an executable file of
-- RISC-V
abbrev pub file_rows : ProgramValue → List FieldRow
file_rows p =
    word 0 0x464C457F ∷ byte 4 1 ∷ byte 5 1 ∷ byte 6 1 ∷ byte 7 0 ∷ word 8 0 ∷ word 12 0
    ∷ half 16 2 ∷ half 18 243 ∷ word 20 1
    ∷ word 24 p.entry ∷ word 28 (if program_headers p == 0 then 0 else 52) ∷ word 32 (sections_place p % 2 ^ 32)
    ∷ word 36 0 ∷ half 40 52 ∷ half 42 32 ∷ half 44 (program_headers p)
    ∷ half 46 40 ∷ half 48 7 ∷ half 50 6 ∷ []

-- a program header: offset, address twice, sizes in the file and in memory, rights, and the
-- multiple of 4096
abbrev pub load_rows : ℕ → ℕ → ℕ → ℕ → ℕ → List FieldRow
load_rows offset address file_size memory_size rights =
    word 0 1 ∷ word 4 offset ∷ word 8 address ∷ word 12 address ∷ word 16 file_size ∷ word 20 memory_size ∷ word 24 rights ∷ word 28 4096 ∷ []

-- the text's, where there is text
abbrev pub text_rows : ProgramValue → List FieldRow
text_rows p = if length p.text == 0 then [] else load_rows 4096 0x10000 (length p.text) (length p.text) 5

-- that of data and zeros, where there are any
abbrev pub data_rows : ProgramValue → List FieldRow
data_rows p =
    if memory_size p == 0 then []
    else load_rows (4096 + data_place p) (0x10000 + data_place p) (length p.bytes) (memory_size p) 6

-- a section header: name, type, flags, address, offset, size, link, info, alignment, size of an
-- entry
abbrev pub section_rows : ℕ → ℕ → ℕ → ℕ → ℕ → ℕ → ℕ → ℕ → ℕ → ℕ → List FieldRow
section_rows name kind flags address offset size link info align entry =
    word 0 name ∷ word 4 kind ∷ word 8 flags ∷ word 12 address ∷ word 16 offset ∷ word 20 size ∷ word 24 link
    ∷ word 28 info ∷ word 32 align ∷ word 36 entry ∷ []

-- the number of a symbol's section
abbrev pub section_index : Section → ℕ
section_index section.Text = 1
section_index section.Data = 2
section_index section.Zeros = 3

-- a symbol: its name's place, its address, no size, 16 where other files see it, its section
abbrev pub symbol_rows : ℕ → Symbol → List FieldRow
symbol_rows name_place s =
    word 0 (name_place % 2 ^ 32) ∷ word 4 (s.address % 2 ^ 32) ∷ word 8 0 ∷ byte 12 (if s.global then 16 else 0) ∷ byte 13 0
    ∷ half 14 (section_index s.section) ∷ []

-- the names of the sections; the first is empty
abbrev pub written_section_names : List ℕ
written_section_names =
    0 ∷ (codes ".text" ++ (0 ∷ (codes ".data" ++ (0 ∷ (codes ".bss" ++ (0 ∷ (codes ".symtab"
    ++ (0 ∷ (codes ".strtab" ++ (0 ∷ (codes ".shstrtab" ++ 0 ∷ [])))))))))))

-- so many zero bytes
abbrev pub zeros : ℕ → List ℕ
zeros n = replicate n 0

-- ---- the file
-- the seven section headers, of 40 bytes each
pub record HasSections (p : ProgramValue) (bytes : List ℕ) : Type 0 where
  pub none : AllStand bytes (sections_place p) (section_rows 0 0 0 0 0 0 0 0 0 0)
  pub text_section : AllStand bytes (sections_place p + 40) (section_rows 1 1 6 0x10000 4096 (length p.text) 0 0 4 0)
  pub data_section : AllStand bytes (sections_place p + 80)
      (section_rows 7 1 3 (0x10000 + data_place p) (4096 + data_place p) (length p.bytes) 0 0 4 0)
  pub bss : AllStand bytes (sections_place p + 120)
      (section_rows 13 8 3 (0x10000 + round_up (data_place p + length p.bytes) 4) (end_of_data p) p.zeros 0 0 4 0)
  pub symtab : AllStand bytes (sections_place p + 160)
      (section_rows 18 2 0 0 (symbols_place p % 2 ^ 32) (16 * (1 + length (listed_symbols p.symbols)) % 2 ^ 32) 5
      ((1 + length (local_symbols p.symbols)) % 2 ^ 32) 4 16)
  pub strtab : AllStand bytes (sections_place p + 200)
      (section_rows 26 3 0 0 (names_place p % 2 ^ 32) ((1 + names_size (listed_symbols p.symbols)) % 2 ^ 32) 0 0 1 0)
  pub shstrtab : AllStand bytes (sections_place p + 240)
      (section_rows 34 3 0 0 (section_names_place p % 2 ^ 32) 44 0 0 1 0)

-- the symbol behind others, and its name behind theirs
pub record HasSymbol (p : ProgramValue) (bytes : List ℕ) (before : SymbolList) (s : List ℕ × Symbol) : Type 0 where
  pub fields : AllStand bytes (symbols_place p + 16 * (1 + length before)) (symbol_rows (1 + names_size before) s.1)
  pub name : HasBytesAt bytes (names_place p + (1 + names_size before)) (s.0 ++ 0 ∷ [])

-- each field and each part of a program's file at its place, and zero bytes between
pub record HasFields (p : ProgramValue) (bytes : List ℕ) : Type 0 where
  pub header : AllStand bytes 0 (file_rows p)
  pub text_header : AllStand bytes 52 (text_rows p)
  pub data_header : AllStand bytes (if length p.text == 0 then 52 else 84) (data_rows p)
  pub before_text : HasBytesAt bytes (52 + 32 * program_headers p) (zeros (4044 - 32 * program_headers p))
  pub text_bytes : HasBytesAt bytes 4096 p.text
  pub before_data : HasBytesAt bytes (4096 + length p.text) (zeros (data_place p - length p.text))
  pub data_bytes : HasBytesAt bytes (4096 + data_place p) p.bytes
  pub before_symbols : HasBytesAt bytes (end_of_data p) (zeros (symbols_place p - end_of_data p))
  pub no_symbol : HasBytesAt bytes (symbols_place p) (zeros 16)
  pub symbols : (before : SymbolList) (s : List ℕ × Symbol) (after : SymbolList)
      → listed_symbols p.symbols ≡ before ++ s ∷ after → HasSymbol p bytes before s
  pub no_name : HasBytesAt bytes (names_place p) (0 ∷ [])
  pub names : HasBytesAt bytes (section_names_place p) written_section_names
  pub before_sections : HasBytesAt bytes (section_names_place p + 44) (zeros (sections_place p - (section_names_place p + 44)))
  pub sections : HasSections p bytes
  pub ends : length bytes ≡ sections_place p + 280

-- each field of a written file is at its place, whatever program within the limit it is of
abbrev pub WrittenHasFields : (ProgramValue → List ℕ) → Type 0
WrittenHasFields file =
    (p : ProgramValue) → length p.text + memory_size p ≤ 2 ^ 24 → p.entry < 2 ^ 32 → HasFields p (file p)

-- the fields fix the bytes: two files that have those of a program are the same
abbrev pub FieldsFixBytes : Type 0
FieldsFixBytes =
    (p : ProgramValue) (one other : List ℕ) → All (λ b. b < 256) one → All (λ b. b < 256) other
    → HasFields p one → HasFields p other → one ≡ other
