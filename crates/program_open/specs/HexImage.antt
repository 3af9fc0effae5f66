-- The image of a program of words.
use Rattle.std.specs.Prelude.{ℕ, ◌/◌, ◌%◌, List, [], ◌∷◌, ◌++◌}
use Rattle.image.specs.Image.{ImageValue}
use Rattle.image.specs.Segment.{SegmentValue}

-- the address of the first word, which is also the entry
abbrev pub hex_base : ℕ
hex_base = 0x0001_0000

-- the size of the segment in bytes, for any number of words
abbrev pub hex_size : ℕ
hex_size = 8192

-- the four bytes of a word, little-endian
abbrev pub word_bytes : ℕ → List ℕ
word_bytes word = word % 256 ∷ word / 256 % 256 ∷ word / 65536 % 256 ∷ word / 16777216 % 256 ∷ []

-- the bytes of words, in order
abbrev pub hex_bytes : List ℕ → List ℕ
hex_bytes [] = []
hex_bytes (word ∷ words) = word_bytes word ++ hex_bytes words

-- one segment with all rights, which begins with the words; the first of them is the entry
abbrev pub hex_segment : List ℕ → SegmentValue
hex_segment words = record { base = hex_base; size = hex_size; rights = 7; bytes = hex_bytes words }

abbrev pub hex_image_of : List ℕ → ImageValue
hex_image_of words = record { entry = hex_base; segments = hex_segment words ∷ [] }
