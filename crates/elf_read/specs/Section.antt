-- Section headers.
use Rattle.std.specs.Prelude.{ℕ, zero, suc, ◌+◌, Bool, ◌==◌, nat_lt, List, [], ◌∷◌, take, drop}
use Rattle.elf_read.specs.Number.{word_at}
use Rattle.elf_read.specs.Codes.{SH_TYPE, SH_OFFSET, SH_SIZE, SH_LINK, SH_ENTSIZE, SECTION_HEADER_SIZE, SHT_SYMTAB}
use Rattle.elf_read.specs.declared.section.SectionHeader.{SectionHeader}

-- the section header at an offset
unfoldable pub section_at : List ℕ → ℕ → SectionHeader
section_at bytes place = record {
  kind = word_at bytes (place + SH_TYPE);
  offset = word_at bytes (place + SH_OFFSET);
  size = word_at bytes (place + SH_SIZE);
  link = word_at bytes (place + SH_LINK);
  entry_size = word_at bytes (place + SH_ENTSIZE);
}

-- this many section headers from an offset on
unfoldable pub sections_from : List ℕ → ℕ → ℕ → List SectionHeader
sections_from bytes place zero = []
sections_from bytes place (suc n) =
    section_at bytes place ∷ sections_from bytes (place + SECTION_HEADER_SIZE) n

-- whether a section is a symbol table
abbrev pub is_symbol_table : SectionHeader → Bool
is_symbol_table s = s.kind == SHT_SYMTAB

-- whether a section lies past the end of a file of this many bytes
abbrev pub ends_behind_file : ℕ → SectionHeader → Bool
ends_behind_file n s = nat_lt n (s.offset + s.size)

-- the bytes of a section
abbrev pub section_bytes : List ℕ → SectionHeader → List ℕ
section_bytes bytes s = take s.size (drop s.offset bytes)
