-- Program headers.
use Rattle.std.specs.Prelude.{ℕ, zero, suc, ◌+◌, Bool, ◌&&◌, ◌||◌, ◌==◌, nat_lt, List, [], ◌∷◌}
use Rattle.elf_read.specs.Number.{word_at}
use Rattle.elf_read.specs.Codes.{P_TYPE, P_OFFSET, P_VADDR, P_FILESZ, P_MEMSZ, P_FLAGS, PROGRAM_HEADER_SIZE, PT_LOAD, PT_DYNAMIC, PT_INTERP}
use Rattle.elf_read.specs.declared.program_header.ProgramHeader.{ProgramHeader}
use Rattle.image.specs.declared.span.Span.{Span}

-- the program header at an offset
unfoldable pub program_header_at : List ℕ → ℕ → ProgramHeader
program_header_at bytes place = record {
  kind = word_at bytes (place + P_TYPE);
  offset = word_at bytes (place + P_OFFSET);
  address = word_at bytes (place + P_VADDR);
  file_size = word_at bytes (place + P_FILESZ);
  memory_size = word_at bytes (place + P_MEMSZ);
  flags = word_at bytes (place + P_FLAGS);
}

-- this many program headers from an offset on
unfoldable pub program_headers_from : List ℕ → ℕ → ℕ → List ProgramHeader
program_headers_from bytes place zero = []
program_headers_from bytes place (suc n) =
    program_header_at bytes place ∷ program_headers_from bytes (place + PROGRAM_HEADER_SIZE) n

-- whether a header is a loadable segment's
abbrev pub is_load : ProgramHeader → Bool
is_load h = h.kind == PT_LOAD

-- whether a header asks for a dynamic linker
abbrev pub is_dynamic : ProgramHeader → Bool
is_dynamic h = h.kind == PT_DYNAMIC || h.kind == PT_INTERP

-- whether bytes of a segment lie past the end of a file of this many bytes
abbrev pub is_outside : ℕ → ProgramHeader → Bool
is_outside n h = is_load h && nat_lt 0 h.file_size && nat_lt n (h.offset + h.file_size)

-- whether a header gives the image a segment
abbrev pub is_loaded_segment : ProgramHeader → Bool
is_loaded_segment h = is_load h && nat_lt 0 h.memory_size

-- the span of a header's segment, for the checks of places
abbrev pub header_span : ProgramHeader → Span
header_span h = record { base = h.address; size = h.memory_size; file_size = h.file_size }
