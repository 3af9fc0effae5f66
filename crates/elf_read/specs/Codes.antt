-- The constants of ELF files, under the standard's names: System V ELF, "ELF Header", "Program
-- Header", "Sections", "Symbol Table"; those of RISC-V: RISC-V ELF psABI, "File Header".
use Rattle.std.specs.Prelude.{ℕ}

-- ---- e_ident: magic number, offsets and values
-- the first four bytes of a file, as a little-endian number
abbrev pub MAGIC : ℕ
MAGIC = 0x464c_457f

-- the offset of the file's class
abbrev pub EI_CLASS : ℕ
EI_CLASS = 4

-- the offset of the byte order
abbrev pub EI_DATA : ℕ
EI_DATA = 5

-- the offset of the version in e_ident
abbrev pub EI_VERSION : ℕ
EI_VERSION = 6

-- addresses and offsets have 32 bits
abbrev pub ELFCLASS32 : ℕ
ELFCLASS32 = 1

-- numbers are little-endian
abbrev pub ELFDATA2LSB : ℕ
ELFDATA2LSB = 1

-- the only version
abbrev pub EV_CURRENT : ℕ
EV_CURRENT = 1

-- ---- offsets of fields in the header, in bytes
abbrev pub E_TYPE : ℕ
E_TYPE = 16

abbrev pub E_MACHINE : ℕ
E_MACHINE = 18

abbrev pub E_VERSION : ℕ
E_VERSION = 20

abbrev pub E_ENTRY : ℕ
E_ENTRY = 24

abbrev pub E_PHOFF : ℕ
E_PHOFF = 28

abbrev pub E_SHOFF : ℕ
E_SHOFF = 32

abbrev pub E_FLAGS : ℕ
E_FLAGS = 36

abbrev pub E_EHSIZE : ℕ
E_EHSIZE = 40

abbrev pub E_PHENTSIZE : ℕ
E_PHENTSIZE = 42

abbrev pub E_PHNUM : ℕ
E_PHNUM = 44

abbrev pub E_SHENTSIZE : ℕ
E_SHENTSIZE = 46

abbrev pub E_SHNUM : ℕ
E_SHNUM = 48

-- ---- values of the header's fields
-- an executable file
abbrev pub ET_EXEC : ℕ
ET_EXEC = 2

-- RISC-V
abbrev pub EM_RISCV : ℕ
EM_RISCV = 243

-- the bit of e_flags for compressed instructions
abbrev pub EF_RISCV_RVC : ℕ
EF_RISCV_RVC = 1

-- the e_phnum of a file whose count of program headers is stored elsewhere
abbrev pub PN_XNUM : ℕ
PN_XNUM = 0xffff

-- ---- sizes, in bytes
-- the size of the file's header, in bytes
abbrev pub HEADER_SIZE : ℕ
HEADER_SIZE = 52

-- the size of a program header, in bytes
abbrev pub PROGRAM_HEADER_SIZE : ℕ
PROGRAM_HEADER_SIZE = 32

-- the size of a section header, in bytes
abbrev pub SECTION_HEADER_SIZE : ℕ
SECTION_HEADER_SIZE = 40

-- the size of a symbol, in bytes
abbrev pub SYMBOL_SIZE : ℕ
SYMBOL_SIZE = 16

-- ---- offsets of fields in a program header
abbrev pub P_TYPE : ℕ
P_TYPE = 0

abbrev pub P_OFFSET : ℕ
P_OFFSET = 4

abbrev pub P_VADDR : ℕ
P_VADDR = 8

abbrev pub P_FILESZ : ℕ
P_FILESZ = 16

abbrev pub P_MEMSZ : ℕ
P_MEMSZ = 20

abbrev pub P_FLAGS : ℕ
P_FLAGS = 24

-- ---- kinds of program headers
-- a loadable segment
abbrev pub PT_LOAD : ℕ
PT_LOAD = 1

-- dynamic linking information
abbrev pub PT_DYNAMIC : ℕ
PT_DYNAMIC = 2

-- the path of an interpreter
abbrev pub PT_INTERP : ℕ
PT_INTERP = 3

-- ---- offsets of fields in a section header
abbrev pub SH_TYPE : ℕ
SH_TYPE = 4

abbrev pub SH_OFFSET : ℕ
SH_OFFSET = 16

abbrev pub SH_SIZE : ℕ
SH_SIZE = 20

abbrev pub SH_LINK : ℕ
SH_LINK = 24

abbrev pub SH_ENTSIZE : ℕ
SH_ENTSIZE = 36

-- ---- kinds and flags of sections
-- bytes defined by the program
abbrev pub SHT_PROGBITS : ℕ
SHT_PROGBITS = 1

-- a symbol table
abbrev pub SHT_SYMTAB : ℕ
SHT_SYMTAB = 2

-- a string table
abbrev pub SHT_STRTAB : ℕ
SHT_STRTAB = 3

-- zero bytes that take no space in the file
abbrev pub SHT_NOBITS : ℕ
SHT_NOBITS = 8

-- a section that is writable in memory
abbrev pub SHF_WRITE : ℕ
SHF_WRITE = 1

-- a section that occupies memory
abbrev pub SHF_ALLOC : ℕ
SHF_ALLOC = 2

-- a section of instructions
abbrev pub SHF_EXECINSTR : ℕ
SHF_EXECINSTR = 4

-- ---- offsets of fields in a symbol, a binding, types and a place
abbrev pub ST_NAME : ℕ
ST_NAME = 0

abbrev pub ST_VALUE : ℕ
ST_VALUE = 4

abbrev pub ST_INFO : ℕ
ST_INFO = 12

abbrev pub ST_SHNDX : ℕ
ST_SHNDX = 14

-- the binding of a global symbol, in the high half of st_info
abbrev pub STB_GLOBAL : ℕ
STB_GLOBAL = 1

-- types, in the low half of st_info: not said, data, a function, a section, a source file
abbrev pub STT_NOTYPE : ℕ
STT_NOTYPE = 0

abbrev pub STT_OBJECT : ℕ
STT_OBJECT = 1

abbrev pub STT_FUNC : ℕ
STT_FUNC = 2

abbrev pub STT_SECTION : ℕ
STT_SECTION = 3

abbrev pub STT_FILE : ℕ
STT_FILE = 4

-- the st_shndx of an absolute value
abbrev pub SHN_ABS : ℕ
SHN_ABS = 0xfff1
