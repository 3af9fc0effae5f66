-- The nearest of some names.
use Rattle.std.specs.Prelude.{ℕ, List, [], ◌∷◌, Option, Some, length, nat_eq, nat_lt, if◌then◌else◌}
use Rattle.std.specs.Str.{chars}
use Rattle.strsim.specs.Edits.{levenshtein_row}

-- the edit distance: characters to add, leave out or change to make one text of another
abbrev pub edits : List ℕ → List ℕ → ℕ
edits text name = levenshtein_row nat_eq (chars text) (chars name) (length (chars name))

-- the first name with the least edit distance, if that is below a bound; else another text
abbrev pub nearest_below : List ℕ → Option (List ℕ) → ℕ → List (List ℕ) → Option (List ℕ)
nearest_below text best bound [] = best
nearest_below text best bound (name ∷ names) =
    if nat_lt (edits text name) bound
    then nearest_below text (Some name) (edits text name) names
    else nearest_below text best bound names
