-- Rows that are kept or not.
use Rattle.std.specs.Prelude.{◌≡◌, ℕ, List, [], ◌∷◌, ◌++◌, length}
use Rattle.explore_search.specs.declared.edges.Edges.{Edges}
use Rattle.explore_search.specs.declared.edges.Edges.TheVariants.{Kept, NotKept}

-- one row more is there, if rows are kept
abbrev pub KeepsRow : Edges → List ℕ → List (List ℕ) → List (List ℕ) → Type 0
KeepsRow Kept row rows more = more ≡ rows ++ row ∷ []
KeepsRow NotKept row rows more = more ≡ rows

-- there are so many rows, if rows are kept, and else none
abbrev pub CountsRows : Edges → ℕ → List (List ℕ) → Type 0
CountsRows Kept n rows = length rows ≡ n
CountsRows NotKept n rows = rows ≡ []
