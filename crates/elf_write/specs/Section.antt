-- The parts after the data of a written file.
use Rattle.std.specs.Prelude.{ℕ, ◌+◌, ◌-◌, ◌%◌, ◌^◌, List, [], ◌∷◌, ◌++◌, length, codes}
use Rattle.asm_assemble.specs.Program.{ProgramValue, round_up}
use Rattle.asm_assemble.specs.Program.{text_start}
use Rattle.elf_read.specs.Codes.{SHF_ALLOC, SHF_EXECINSTR, SHF_WRITE, SHT_NOBITS, SHT_PROGBITS, SHT_STRTAB, SHT_SYMTAB, SYMBOL_SIZE}
use Rattle.elf_write.specs.Field.{bytes_of_all, zero_bytes}
use Rattle.elf_write.specs.Layout.{data_distance}
use Rattle.elf_write.specs.Table.{TablesValue, symbol_tables}
use Rattle.elf_write.specs.declared.field.Field.{Field}
use Rattle.elf_write.specs.declared.field.Field.TheVariants.{Word}
use Rattle.elf_write.specs.declared.section.SectionHeader.{SectionHeader}

-- the offset of the data's end
unfoldable pub data_end : ProgramValue → ℕ
data_end p = 4096 + data_distance p + length p.bytes

-- the symbol table and its names
abbrev pub tables_of : ProgramValue → TablesValue
tables_of p = symbol_tables p.symbols

-- the offset of the symbol table
unfoldable pub symbols_at : ProgramValue → ℕ
symbols_at p = round_up (data_end p) 4

-- the offset of its names
unfoldable pub names_at : ProgramValue → ℕ
names_at p = symbols_at p + length (tables_of p).entries

-- the offset of the names of the sections
unfoldable pub section_names_at : ProgramValue → ℕ
section_names_at p = names_at p + length (tables_of p).names

-- the offset of the section headers
unfoldable pub sections_at : ProgramValue → ℕ
sections_at p = round_up (section_names_at p + 44) 4

-- the names of the sections, each ended by a zero byte; 44 bytes
unfoldable pub section_names : List ℕ
section_names =
    0 ∷ (codes ".text" ++ (0 ∷ (codes ".data" ++ (0 ∷ (codes ".bss" ++ (0 ∷ (codes ".symtab"
    ++ (0 ∷ (codes ".strtab" ++ (0 ∷ (codes ".shstrtab" ++ 0 ∷ [])))))))))))

-- the bytes between the data and the zero bytes before the section headers
abbrev pub joined_tables : ProgramValue → List ℕ
joined_tables p =
    ((zero_bytes (symbols_at p - data_end p) ++ (tables_of p).entries) ++ (tables_of p).names) ++ section_names

-- the bytes between the data and the section headers
unfoldable pub table_bytes : ProgramValue → List ℕ
table_bytes p = joined_tables p ++ zero_bytes (sections_at p - (section_names_at p + 44))

-- a section header
unfoldable pub section_fields : SectionHeader → List Field
section_fields s =
    Word s.name ∷ Word s.kind ∷ Word s.flags ∷ Word s.address ∷ Word s.offset ∷ Word s.size ∷ Word s.link
    ∷ Word s.info ∷ Word s.align ∷ Word s.entry_size ∷ []

-- the text's section
abbrev pub text_section : ProgramValue → SectionHeader
text_section p = record {
  name = 1;
  kind = SHT_PROGBITS;
  flags = SHF_ALLOC + SHF_EXECINSTR;
  address = text_start;
  offset = 4096;
  size = length p.text;
  link = 0;
  info = 0;
  align = 4;
  entry_size = 0;
}

-- the data's section
abbrev pub data_section : ProgramValue → SectionHeader
data_section p = record {
  name = 7;
  kind = SHT_PROGBITS;
  flags = SHF_WRITE + SHF_ALLOC;
  address = text_start + data_distance p;
  offset = 4096 + data_distance p;
  size = length p.bytes;
  link = 0;
  info = 0;
  align = 4;
  entry_size = 0;
}

-- the section of the zeros, which begin at a multiple of 4 after the data
abbrev pub zeros_section : ProgramValue → SectionHeader
zeros_section p = record {
  name = 13;
  kind = SHT_NOBITS;
  flags = SHF_WRITE + SHF_ALLOC;
  address = text_start + round_up (data_distance p + length p.bytes) 4;
  offset = data_end p;
  size = p.zeros;
  link = 0;
  info = 0;
  align = 4;
  entry_size = 0;
}

-- the headers of the null section and of the program's own sections
unfoldable pub own_sections : ProgramValue → List ℕ
own_sections p =
    zero_bytes 40
    ++ (bytes_of_all (section_fields (text_section p))
    ++ (bytes_of_all (section_fields (data_section p))
    ++ bytes_of_all (section_fields (zeros_section p))))

-- the symbol table's section; section 5 has its names
abbrev pub symbols_section : ProgramValue → SectionHeader
symbols_section p = record {
  name = 18;
  kind = SHT_SYMTAB;
  flags = 0;
  address = 0;
  offset = symbols_at p % 2 ^ 32;
  size = length (tables_of p).entries % 2 ^ 32;
  link = 5;
  info = (tables_of p).first_global;
  align = 4;
  entry_size = SYMBOL_SIZE;
}

-- the section of the symbols' names
abbrev pub names_section : ProgramValue → SectionHeader
names_section p = record {
  name = 26;
  kind = SHT_STRTAB;
  flags = 0;
  address = 0;
  offset = names_at p % 2 ^ 32;
  size = length (tables_of p).names % 2 ^ 32;
  link = 0;
  info = 0;
  align = 1;
  entry_size = 0;
}

-- the section of the sections' names
abbrev pub section_names_section : ProgramValue → SectionHeader
section_names_section p = record {
  name = 34;
  kind = SHT_STRTAB;
  flags = 0;
  address = 0;
  offset = section_names_at p % 2 ^ 32;
  size = 44;
  link = 0;
  info = 0;
  align = 1;
  entry_size = 0;
}

-- the headers of the tables
unfoldable pub table_sections : ProgramValue → List ℕ
table_sections p =
    bytes_of_all (section_fields (symbols_section p))
    ++ (bytes_of_all (section_fields (names_section p))
    ++ bytes_of_all (section_fields (section_names_section p)))
