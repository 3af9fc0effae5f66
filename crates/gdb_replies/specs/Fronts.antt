-- Texts that others begin with.
use Rattle.std.specs.Prelude.{◌≡◌, ℕ, List, ◌++◌, length, drop}

-- a text begins with another
abbrev pub BeginsWith : List ℕ → List ℕ → Type 0
BeginsWith text front = text ≡ front ++ drop (length front) text
