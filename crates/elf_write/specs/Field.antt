-- Numbers as bytes of a file.
use Rattle.std.specs.Prelude.{ℕ, List, [], ◌∷◌, ◌++◌, replicate}
use Rattle.byteorder.specs.Endian.{little_bytes}
use Rattle.elf_write.specs.declared.field.Field.{Field}
use Rattle.elf_write.specs.declared.field.Field.TheVariants as fields

-- the bytes of a number, little-endian
abbrev pub field_bytes : Field → List ℕ
field_bytes (fields.Byte n) = n ∷ []
field_bytes (fields.Half n) = little_bytes 2 n
field_bytes (fields.Word n) = little_bytes 4 n

-- the bytes of numbers in order
abbrev pub bytes_of_all : List Field → List ℕ
bytes_of_all [] = []
bytes_of_all (f ∷ fs) = field_bytes f ++ bytes_of_all fs

-- this many zero bytes
unfoldable pub zero_bytes : ℕ → List ℕ
zero_bytes n = replicate n 0
