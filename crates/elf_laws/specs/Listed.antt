-- The symbols that `symbols` gives of any file, in the words of System V ELF, "Sections", "Symbol
-- Table" and "String Table": those with a name, of the first symbol table, in its order. `elf_read`
-- says how they are read one after another; the law of src/listed.rt says that both are the same.
use Rattle.std.specs.Prelude.{◌≡◌, ℕ, zero, suc, ◌+◌, ◌*◌, ◌/◌, ◌%◌, ◌<◌, ◌≤◌, ◌⊎◌, Bool, true, false, List, [], ◌∷◌, length, drop, map, filter, slice_index, Option, Some, None}
use Rattle.elf_read.specs.Name.{name_in}
use Rattle.elf_read.specs.Number.{word_at, half_at}
use Rattle.elf_read.specs.Section.{section_at, section_bytes}
use Rattle.elf_read.specs.Symbol.{SymbolValue}
use Rattle.elf_read.specs.SymbolFields.{symbol_kind, symbol_place}
use Rattle.elf_read.specs.declared.section.SectionHeader.{SectionHeader}

-- ---- sections
-- e_shoff and e_shnum
abbrev pub headers_at : List ℕ → ℕ
headers_at bytes = word_at bytes 32

abbrev pub section_count : List ℕ → ℕ
section_count bytes = half_at bytes 48

-- the header of the section with an index
abbrev pub section_header : List ℕ → ℕ → SectionHeader
section_header bytes i = section_at bytes (headers_at bytes + 40 * i)

-- the file has section headers
pub record HasHeaders (bytes : List ℕ) : Type 0 where
  pub whole : 52 ≤ length bytes
  pub placed : 0 < headers_at bytes
  pub some : 0 < section_count bytes

-- they have 40 bytes each, and all are in the file
pub record AreInFile (bytes : List ℕ) : Type 0 where
  pub sized : half_at bytes 46 ≡ 40
  pub within : headers_at bytes + 40 * section_count bytes ≤ length bytes

-- the section with an index is the first of type SHT_SYMTAB
pub record IsFirstTable (bytes : List ℕ) (t : ℕ) : Type 0 where
  pub within : t < section_count bytes
  pub is : (section_header bytes t).kind ≡ 2
  pub first : (k : ℕ) → k < t → (section_header bytes k).kind ≡ 2 → ⊥

-- the file has such a section
pub record HasTable (bytes : List ℕ) (t : ℕ) : Type 0 where
  pub headers : HasHeaders bytes
  pub in_file : AreInFile bytes
  pub first : IsFirstTable bytes t

-- ---- the table
-- symbols of 16 bytes, all of them in the file, and so are the names, in the section of type
-- SHT_STRTAB that sh_link names
pub record IsTable (bytes : List ℕ) (table : SectionHeader) : Type 0 where
  pub sized : table.entry_size ≡ 16
  pub whole : table.size % 16 ≡ 0
  pub within : table.offset + table.size ≤ length bytes
  pub linked : table.link < section_count bytes
  pub strings : (section_header bytes table.link).kind ≡ 3
  pub names_within : (section_header bytes table.link).offset + (section_header bytes table.link).size ≤ length bytes

-- how many symbols a table has
abbrev pub symbol_count : SectionHeader → ℕ
symbol_count table = table.size / 16

-- the name of the symbol with an index, at the place that st_name gives, if there is one
abbrev pub symbol_name : List ℕ → SectionHeader → ℕ → Option (List ℕ)
symbol_name bytes table i =
    name_in (drop (word_at bytes (table.offset + 16 * i)) (section_bytes bytes (section_header bytes table.link)))

-- each symbol has a name, which may be empty
abbrev pub AllHaveNames : List ℕ → SectionHeader → Type 0
AllHaveNames bytes table = (i : ℕ) → i < symbol_count table → symbol_name bytes table i ≡ None → ⊥

-- whether a name is there and not empty
abbrev pub is_some_name : Option (List ℕ) → Bool
is_some_name (Some (b ∷ bs)) = true
is_some_name _ = false

abbrev pub text_of_name : Option (List ℕ) → List ℕ
text_of_name (Some name) = name
text_of_name None = []

-- the symbol with an index: its name and st_value, the type in its st_info, and its st_shndx
abbrev pub table_symbol : List ℕ → SectionHeader → ℕ → SymbolValue
table_symbol bytes table i = record {
  name = text_of_name (symbol_name bytes table i);
  address = word_at bytes (table.offset + 16 * i + 4);
  kind = symbol_kind (slice_index bytes (table.offset + 16 * i + 12));
  place = symbol_place (half_at bytes (table.offset + 16 * i + 14));
}

-- so many indices, from one on
abbrev pub indices_from : ℕ → ℕ → List ℕ
indices_from i zero = []
indices_from i (suc n) = i ∷ indices_from (i + 1) n

-- the symbols whose names are not empty, in the order of the table
abbrev pub named_symbols : List ℕ → SectionHeader → List SymbolValue
named_symbols bytes table =
    map (table_symbol bytes table) (filter (λ i. is_some_name (symbol_name bytes table i)) (indices_from 0 (symbol_count table)))

-- ---- what a file gives
-- these symbols
pub record GivesSymbols (bytes : List ℕ) (symbols : List SymbolValue) : Type 0 where
  pub index : ℕ
  pub table : HasTable bytes index
  pub sound : IsTable bytes (section_header bytes index)
  pub names : AllHaveNames bytes (section_header bytes index)
  pub given : symbols ≡ named_symbols bytes (section_header bytes index)

-- no table: e_shoff or e_shnum is 0, or no section has type SHT_SYMTAB
abbrev pub HasNoTable : List ℕ → Type 0
HasNoTable bytes =
    (52 ≤ length bytes)
    × ((headers_at bytes ≡ 0) ⊎ (section_count bytes ≡ 0)
    ⊎ (HasHeaders bytes × AreInFile bytes × ((k : ℕ) → k < section_count bytes → (section_header bytes k).kind ≡ 2 → ⊥)))

-- a bad table: the file has no whole header, its section headers are bad, its first table is, or
-- one of the symbols has no name
pub data HasBadTable (bytes : List ℕ) : Type 0 where
  Short : length bytes < 52 → HasBadTable bytes
  BadHeaders : HasHeaders bytes → (AreInFile bytes → ⊥) → HasBadTable bytes
  BadSection : (t : ℕ) → HasTable bytes t → (IsTable bytes (section_header bytes t) → ⊥) → HasBadTable bytes
  BadName : (t i : ℕ) → HasTable bytes t → IsTable bytes (section_header bytes t) → i < symbol_count (section_header bytes t)
      → symbol_name bytes (section_header bytes t) i ≡ None → HasBadTable bytes
