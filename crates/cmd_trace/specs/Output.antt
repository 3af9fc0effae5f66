-- The written part of a text.
use Rattle.std.specs.Prelude.{◌≡◌, ℕ, List, ◌++◌, Option}
use Rattle.std.specs.Io.KnownBytes.{Appends}

-- of all bytes some were appended, some are in the buffer, and the rest is to come
pub record SoFar (all : List ℕ) (start now : Option (List ℕ)) (buffer rest : List ℕ) : Type 0 where
  pub sent : List ℕ
  pub appended : Appends start now sent
  pub whole : all ≡ sent ++ (buffer ++ rest)
