-- Listings: the lines of bytes from an address on.
use Rattle.std.specs.Prelude.{ℕ, ◌+◌, ◌-◌, ◌*◌, ◌%◌, ◌^◌, ◌++◌, List, [], ◌∷◌, codes, take, drop}
use Rattle.isa_names.specs.Digits.{word_text, byte_text}
use Rattle.isa_disasm.specs.Lines.{line_text}

-- the little-endian word of four bytes
abbrev pub word_of_bytes : ℕ → ℕ → ℕ → ℕ → ℕ
word_of_bytes a b c d = a + b * 2 ^ 8 + c * 2 ^ 16 + d * 2 ^ 24

-- the line of a word, with its address and its digits after it, and then a text
abbrev pub word_entry : ℕ → ℕ → List ℕ → List ℕ
word_entry at word rest =
    line_text at word ++ (codes "  # " ++ (word_text at ++ (codes " " ++ (word_text word ++ (10 ∷ rest)))))

-- the line of a byte that is in no aligned word, and then a text
abbrev pub byte_entry : ℕ → ℕ → List ℕ → List ℕ
byte_entry at byte rest = codes ".byte 0x" ++ (byte_text byte ++ (codes "  # " ++ (word_text at ++ (10 ∷ rest))))

-- the lines of bytes at an aligned address: one for each word, then one for each byte that is left
unfoldable pub listing : ℕ → List ℕ → List ℕ
listing at (a ∷ b ∷ c ∷ d ∷ rest) = word_entry at (word_of_bytes a b c d) (listing (at + 4) rest)
listing at (a ∷ rest) = byte_entry at a (listing (at + 1) rest)
listing at [] = []

-- the lines of single bytes, and then a text
unfoldable pub byte_lines : ℕ → List ℕ → List ℕ → List ℕ
byte_lines at [] rest = rest
byte_lines at (byte ∷ bytes) rest = byte_entry at byte (byte_lines (at + 1) bytes rest)

-- the number of bytes before the first aligned word
abbrev pub before_word : ℕ → ℕ
before_word at = (4 - at % 4) % 4

-- the lines of bytes at any address
unfoldable pub lines_from : ℕ → List ℕ → List ℕ
lines_from at bytes =
    byte_lines at (take (before_word at) bytes) (listing (at + before_word at) (drop (before_word at) bytes))
