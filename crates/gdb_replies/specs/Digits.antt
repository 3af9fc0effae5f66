-- Bytes, words and numbers as hexadecimal digits.
use Rattle.std.specs.Prelude.{ℕ, List, ◌++◌, false, flat_map}
use Rattle.std.specs.Fmt.{digits}
use Rattle.std.specs.Int.{to_le_bytes, w32}
use Rattle.gdb_frames.specs.Frames.{two_digits}

-- bytes as pairs of digits
abbrev pub bytes_text : List ℕ → List ℕ
bytes_text bytes = flat_map two_digits bytes

-- a word as its bytes, the lowest first
abbrev pub low_first_text : ℕ → List ℕ
low_first_text word = bytes_text (to_le_bytes w32 word)

-- a number without leading zeros
abbrev pub number_text : ℕ → List ℕ
number_text n = digits 16 false n

-- words one behind the other
abbrev pub words_text : List ℕ → List ℕ
words_text words = flat_map low_first_text words

-- the registers x0 to x31, and the pc
abbrev pub registers_text : List ℕ → ℕ → List ℕ
registers_text registers pc = words_text registers ++ low_first_text pc
