-- Written files, and the images that they load as.
use Rattle.std.specs.Prelude.{ℕ, ◌+◌, ◌-◌, ◌%◌, ◌^◌, ◌==◌, if◌then◌else◌, List, [], ◌∷◌, ◌++◌, length, Result, Ok, Err}
use Rattle.asm_assemble.specs.Program.{ProgramValue}
use Rattle.asm_assemble.specs.Program.{text_start}
use Rattle.image.specs.Image.{ImageValue}
use Rattle.image.specs.Segment.{SegmentValue}
use Rattle.image.specs.declared.fault.ElfFault.{ElfFault}
use Rattle.image.specs.declared.fault.ElfFault.TheVariants as faults
use Rattle.elf_write.specs.Field.{zero_bytes}
use Rattle.elf_write.specs.Layout.{data_distance, data_size}
use Rattle.elf_write.specs.Section.{sections_at, table_bytes, own_sections, table_sections}
use Rattle.elf_write.specs.Segment.{front_segment}

-- the text, zero bytes up to the data, and the data
unfoldable pub content : ProgramValue → List ℕ
content p = p.text ++ (zero_bytes (data_distance p - length p.text) ++ p.bytes)

-- the file, given the offset of the section headers and the bytes after the data
unfoldable pub file_with : ProgramValue → ℕ → List ℕ → List ℕ
file_with p sections behind = front_segment p sections ++ (content p ++ behind)

-- the written file of a program
unfoldable pub file : ProgramValue → List ℕ
file p =
    file_with p (sections_at p % 2 ^ 32) (table_bytes p ++ (own_sections p ++ table_sections p))

-- the segments of a program: executable text, and writable data and zeros
unfoldable pub program_segments : ProgramValue → List SegmentValue
program_segments p =
    (if length p.text == 0 then []
    else record { base = text_start; size = length p.text; rights = 5; bytes = p.text } ∷ [])
    ++ (if data_size p == 0 then []
    else record { base = text_start + data_distance p; size = data_size p; rights = 6; bytes = p.bytes } ∷ [])

-- the image that a program's file loads as
unfoldable pub program_image : ProgramValue → Result ImageValue ElfFault
program_image p =
    if p.entry % 4 == 0 then Ok (record { entry = p.entry; segments = program_segments p })
    else Err faults.EntryAlign
