-- No check of an image refuses a program of few words.
use Rattle.std.proofs.Common.{◌≡◌, ℕ, ◌*◌, ◌≤◌, false, List, [], ◌∷◌, length, Ok, refl, arith, length-append, le-ltb}
use Rattle.std.specs.Prelude.{nat_lt}
use Rattle.image.specs.Image.{image_or_fault, image_fault}
use Rattle.image.specs.Spans.{space_fault}
use Rattle.program_open.specs.HexImage.{hex_bytes, word_bytes, hex_segment, hex_image_of}
use Rattle.program_open.specs.HexText.{most_words}
use Rattle.program_open.specs.HexImage.{hex_base, hex_size}

length-bytes_of : (words : List ℕ) → length (hex_bytes words) ≡ 4 * length words
length-bytes_of [] = refl
length-bytes_of (word ∷ words) = let e = length-bytes_of words in omega (arith, length-append (word_bytes word) (hex_bytes words))

-- the words fit the segment
fits : (words : List ℕ) → length words ≤ most_words → nat_lt hex_size (length (hex_bytes words)) ≡ false
fits words few = le-ltb hex_size (length (hex_bytes words)) (omega (arith, length-bytes_of words))

pub hex_image_is : (words : List ℕ) → length words ≤ most_words → image_or_fault hex_base (hex_segment words ∷ []) ≡ Ok (hex_image_of words)
unfolding image_or_fault image_fault space_fault
hex_image_is words few = let e = fits words few in rw e refl
