-- Words that differ from an image's.
use Rattle.std.specs.Prelude.{◌≡◌, ◌≢◌, ℕ, ◌%◌, ◌<◌, ◌==◌, if◌then◌else◌, List, [], ◌∷◌, map}
use Rattle.std.specs.List.{All, AllPairs}
use Rattle.image.specs.Image.{ImageValue}
use Rattle.mem_store.specs.Image.{image_memory}
use Rattle.bank_laws.specs.Banks.{WordBytes}
use Rattle.bank_laws.specs.Words.{bytes_at}
use Rattle.explore_sites.specs.declared.cell.Cell.{Cell}

-- the bytes of each word: those of the first cell at its address, or else others
unfoldable pub values_over : (ℕ → WordBytes) → List Cell → ℕ → WordBytes
values_over base [] x = base x
values_over base (cell ∷ cells) x = if cell.address == x then cell.bytes else values_over base cells x

-- the bytes of each word of an image
abbrev pub image_words : ImageValue → ℕ → WordBytes
image_words image x = bytes_at (image_memory image).bytes x

-- the bytes of each word, where cells stand over an image's
abbrev pub words_shown : ImageValue → List Cell → ℕ → WordBytes
words_shown image cells = values_over (image_words image) cells

-- some word isn't the same
pub record WordsDiffer (values others : ℕ → WordBytes) : Type 0 where
  pub address : ℕ
  pub is_word : address % 4 ≡ 0
  pub differs : values address ≢ others address

-- cells stand in the order of their addresses, none twice, and none has the image's own bytes
pub record AreCanonical (image : ImageValue) (cells : List Cell) : Type 0 where
  pub ordered : AllPairs (λ (a b : Cell). a.address < b.address) cells
  pub differ : All (λ (c : Cell). c.bytes ≢ image_words image c.address) cells

-- what a cell says: its address and bytes
abbrev pub cell_word : Cell → ℕ × WordBytes
cell_word cell = (cell.address, cell.bytes)

-- what cells say, in their order
abbrev pub cell_words : List Cell → List (ℕ × WordBytes)
cell_words cells = map cell_word cells
