-- What GDB says that it can do.
use Rattle.std.specs.Prelude.{ℕ, ◌==◌, ◌||◌, Bool, false, List, [], ◌∷◌, if◌then◌else◌}
use Rattle.std.specs.List.{slice_split}
use Rattle.std.specs.Str.{bytes_eq}

-- the parts between semicolons
abbrev pub semicolon_parts : List ℕ → List (List ℕ)
semicolon_parts list = slice_split (λ b. b == 59) list

-- whether a word is one of some parts
unfoldable pub is_one_of : List ℕ → List (List ℕ) → Bool
is_one_of word [] = false
is_one_of word (part ∷ parts) = bytes_eq part word || is_one_of word parts

-- whether a feature is in a list
abbrev pub has_feature : List ℕ → List ℕ → Bool
has_feature feature list = is_one_of feature (semicolon_parts list)

-- a list of features stands behind a colon
abbrev pub announces : List ℕ → List ℕ → Bool
announces feature [] = false
announces feature (b ∷ list) = if b == 58 then has_feature feature list else false
