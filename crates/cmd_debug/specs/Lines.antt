-- Lines read from the front of a source.
use Rattle.std.specs.Prelude.{◌≡◌, ℕ, ◌<◌, ◌==◌, ◌++◌, ◌⊎◌, Bool, true, not, List, [], ◌∷◌, Option, length}
use Rattle.std.specs.List.{list_all}
use Rattle.std.specs.Io.KnownBytes.{Consumes, IsAtEnd}
use Rattle.std.specs.Str.Lines.{strip_carriage_return}

-- no byte ends a line
abbrev pub has_no_end : List ℕ → Bool
has_no_end = list_all (λ b. not (b == 10))

-- no byte was left
abbrev pub TakesNone : Option (List ℕ) → Option (List ℕ) → Type 0
TakesNone old new = Consumes old new [] × IsAtEnd new

-- the bytes up to an LF and the LF were read; the line is these bytes without a final CR
pub record TakesEnded (old new : Option (List ℕ)) (line : List ℕ) : Type 0 where
  pub bytes : List ℕ
  pub plain : has_no_end bytes ≡ true
  pub took : Consumes old new (bytes ++ 10 ∷ [])
  pub is : line ≡ strip_carriage_return bytes

-- all bytes that were left were read, none of which ends a line, and they are the line
pub record TakesLast (old new : Option (List ℕ)) (line : List ℕ) : Type 0 where
  pub plain : has_no_end line ≡ true
  pub took : Consumes old new line
  pub some : 0 < length line
  pub end : IsAtEnd new

-- a line of any length was read
abbrev pub TakesLine : Option (List ℕ) → Option (List ℕ) → List ℕ → Type 0
TakesLine old new line = TakesEnded old new line ⊎ TakesLast old new line
