-- The header of a written file, and its program headers.
use Rattle.std.specs.Prelude.{ℕ, ◌+◌, ◌-◌, ◌*◌, ◌==◌, if◌then◌else◌, List, [], ◌∷◌, ◌++◌, length}
use Rattle.asm_assemble.specs.Program.{ProgramValue}
use Rattle.asm_assemble.specs.Program.{text_start}
use Rattle.elf_read.specs.Codes.{MAGIC, ELFCLASS32, ELFDATA2LSB, EV_CURRENT, ET_EXEC, EM_RISCV, HEADER_SIZE, PROGRAM_HEADER_SIZE, SECTION_HEADER_SIZE, PT_LOAD}
use Rattle.elf_write.specs.Field.{bytes_of_all, zero_bytes}
use Rattle.elf_write.specs.Layout.{data_distance, data_size, header_count}
use Rattle.elf_write.specs.declared.field.Field.{Field}
use Rattle.elf_write.specs.declared.field.Field.TheVariants.{Byte, Half, Word}

-- the program header of a loadable segment: its physical address is its address
unfoldable pub load_fields : ℕ → ℕ → ℕ → ℕ → ℕ → List Field
load_fields offset address file_size memory_size flags =
    Word PT_LOAD ∷ Word offset ∷ Word address ∷ Word address ∷ Word file_size ∷ Word memory_size ∷ Word flags ∷ Word 4096 ∷ []

-- the text, readable and executable
unfoldable pub text_header : ProgramValue → List ℕ
text_header p =
    if length p.text == 0 then []
    else bytes_of_all (load_fields 4096 text_start (length p.text) (length p.text) 5)

-- data and zeros, readable and writable
unfoldable pub data_header : ProgramValue → List ℕ
data_header p =
    if data_size p == 0 then []
    else bytes_of_all (load_fields (4096 + data_distance p) (text_start + data_distance p) (length p.bytes) (data_size p) 6)

-- the file's header, given the offset of the seven section headers; index 5 has sections' names
unfoldable pub file_header : ProgramValue → ℕ → List ℕ
file_header p sections = bytes_of_all (
    Word MAGIC ∷ Byte ELFCLASS32 ∷ Byte ELFDATA2LSB ∷ Byte EV_CURRENT ∷ Byte 0 ∷ Word 0 ∷ Word 0
    ∷ Half ET_EXEC ∷ Half EM_RISCV ∷ Word EV_CURRENT
    ∷ Word p.entry ∷ Word (if header_count p == 0 then 0 else HEADER_SIZE) ∷ Word sections
    ∷ Word 0 ∷ Half HEADER_SIZE ∷ Half PROGRAM_HEADER_SIZE ∷ Half (header_count p)
    ∷ Half SECTION_HEADER_SIZE ∷ Half 7 ∷ Half 6 ∷ [])

-- the file up to the text
abbrev pub front_segment : ProgramValue → ℕ → List ℕ
front_segment p sections =
    file_header p sections ++ (text_header p ++ (data_header p ++ zero_bytes (4044 - 32 * header_count p)))
