-- ELF files: the checks in order, and the image of a file that passes them.
use Rattle.std.specs.Prelude.{ℕ, ◌+◌, ◌-◌, ◌*◌, ◌%◌, Bool, not, ◌&&◌, ◌==◌, nat_lt, if◌then◌else◌, List, length, slice_index, take, drop, map, filter, Option, None, Result}
use Rattle.std.specs.List.{list_any}
use Rattle.image.specs.Fault.{fault_if, first_fault}
use Rattle.elf_read.specs.Header.{header_fault}
use Rattle.image.specs.Image.{ImageValue, fault_or}
use Rattle.elf_read.specs.Number.{word_at, half_at}
use Rattle.elf_read.specs.ProgramHeader.{program_headers_from, is_load, is_dynamic, is_outside, is_loaded_segment, header_span}
use Rattle.image.specs.Segment.{SegmentValue}
use Rattle.image.specs.Spans.{space_fault}
use Rattle.elf_read.specs.Codes.{E_ENTRY, E_PHOFF, E_PHNUM, PROGRAM_HEADER_SIZE}
use Rattle.image.specs.declared.fault.ElfFault.{ElfFault}
use Rattle.image.specs.declared.fault.ElfFault.TheVariants as faults
use Rattle.elf_read.specs.declared.program_header.ProgramHeader.{ProgramHeader}

-- whether there are program headers that lie past the end of the file
unfoldable pub is_table_outside : List ℕ → Bool
is_table_outside bytes =
    not (half_at bytes E_PHNUM == 0)
    && nat_lt (length bytes) (word_at bytes E_PHOFF + PROGRAM_HEADER_SIZE * half_at bytes E_PHNUM)

-- the program headers of a file that has them
unfoldable pub program_headers_of : List ℕ → List ProgramHeader
program_headers_of bytes =
    program_headers_from bytes (word_at bytes E_PHOFF) (half_at bytes E_PHNUM)

-- the first check of the program headers and the entry that a file of n bytes fails
unfoldable pub headers_fault : ℕ → ℕ → List ProgramHeader → Option ElfFault
headers_fault n entry headers =
    fault_if (list_any (is_outside n) headers) faults.OutsideFile (
    first_fault (space_fault (map header_span (filter is_load headers))) (
    fault_if (list_any is_dynamic headers) faults.Dynamic (
    fault_if (not (entry % 4 == 0)) faults.EntryAlign
    None)))

-- the first check that a file fails
unfoldable pub elf_fault : List ℕ → Option ElfFault
elf_fault bytes =
    first_fault (header_fault bytes) (
    fault_if (is_table_outside bytes) faults.OutsideFile (
    headers_fault (length bytes) (word_at bytes E_ENTRY) (program_headers_of bytes)))

-- the segment of a program header, with its bytes of the file
abbrev pub segment_of : List ℕ → ProgramHeader → SegmentValue
segment_of bytes h = record {
  base = h.address;
  size = h.memory_size;
  rights = h.flags % 8;
  bytes = take h.file_size (drop h.offset bytes);
}

-- the entry, and the segments that are not empty, in the file's order
unfoldable pub file_image : List ℕ → ImageValue
file_image bytes = record {
  entry = word_at bytes E_ENTRY;
  segments = map (segment_of bytes) (filter is_loaded_segment (program_headers_of bytes));
}

-- the first check that a file fails, else its image
unfoldable pub loaded_image : List ℕ → Result ImageValue ElfFault
loaded_image bytes = fault_or (elf_fault bytes) (file_image bytes)

-- the byte of a segment at an address: 0 past its file bytes
abbrev pub byte_at : SegmentValue → ℕ → ℕ
byte_at s a = slice_index s.bytes (a - s.base)

-- the byte at an address by the program header: the file's, or 0 from p_filesz on
abbrev pub file_byte : List ℕ → ProgramHeader → ℕ → ℕ
file_byte bytes h a =
    if nat_lt (a - h.address) h.file_size then slice_index bytes (h.offset + (a - h.address)) else 0
