-- The layout of a written file.
use Rattle.std.specs.Prelude.{ℕ, ◌+◌, ◌==◌, if◌then◌else◌, length}
use Rattle.asm_assemble.specs.Program.{ProgramValue, round_up, segment_size}

-- the distance from the text's first byte to the data, in memory and in the file
unfoldable pub data_distance : ProgramValue → ℕ
data_distance p = round_up (length p.text) 4096

-- the size of the segment of data and zeros
unfoldable pub data_size : ProgramValue → ℕ
data_size p = segment_size (length p.bytes) p.zeros

-- the number of program headers
unfoldable pub header_count : ProgramValue → ℕ
header_count p = (if length p.text == 0 then 0 else 1) + (if data_size p == 0 then 0 else 1)
