-- Pieces of a long text: GDB's manual, "Remote Serial Protocol", "General Query Packets", `qXfer`.
use Rattle.std.specs.Prelude.{◌≡◌, ℕ, ◌+◌, min, nat_lt, List, ◌∷◌, ◌++◌, length, take, drop, if◌then◌else◌}

-- what is left of a text, cut to a size: `m` and a part, or `l` and the rest
abbrev pub cut_text : List ℕ → ℕ → List ℕ
cut_text rest size = if nat_lt size (length rest) then 109 ∷ take size rest else 108 ∷ rest

-- a piece of at most so many bytes from a place on; an answer has at most 0x4000 bytes, and the
-- first is the letter
abbrev pub piece_text : List ℕ → ℕ → ℕ → List ℕ
piece_text whole from count = cut_text (drop from whole) (min 16383 count)

-- a text that comes from a place on: pieces behind `m`, each asked for behind the one before, and
-- the one behind `l`
pub data ComesInPieces (whole : List ℕ) : ℕ → List ℕ → Type 0 where
  last : (from count : ℕ) (text : List ℕ) → piece_text whole from count ≡ 108 ∷ text
      → ComesInPieces whole from text
  more : (from count : ℕ) (text rest : List ℕ) → piece_text whole from count ≡ 109 ∷ text
      → ComesInPieces whole (from + length text) rest
      → ComesInPieces whole from (text ++ rest)
