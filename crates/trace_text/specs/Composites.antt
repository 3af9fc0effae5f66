-- The texts of objects and arrays, with no blank between tokens. RFC 8259, sections 4 and 5.
use Rattle.std.specs.Prelude.{ℕ, List, [], ◌∷◌, ◌++◌}

-- a member: its name between quotes, a colon and the text of its value. It has to be a name with
-- nothing to escape
unfoldable pub member : List ℕ → List ℕ → List ℕ
member name value = 34 ∷ (name ++ (34 ∷ 58 ∷ value))

-- members behind a first, each behind a comma, and the closing brace
abbrev pub more_members : List (List ℕ) → List ℕ
more_members [] = 125 ∷ []
more_members (m ∷ members) = 44 ∷ (m ++ more_members members)

-- the object of some members
abbrev pub object : List (List ℕ) → List ℕ
object [] = 123 ∷ 125 ∷ []
object (m ∷ members) = 123 ∷ (m ++ more_members members)

-- elements behind a first, each behind a comma, and the closing bracket
abbrev pub more_elements : List (List ℕ) → List ℕ
more_elements [] = 93 ∷ []
more_elements (e ∷ elements) = 44 ∷ (e ++ more_elements elements)

-- the array of some elements
abbrev pub array : List (List ℕ) → List ℕ
array [] = 91 ∷ 93 ∷ []
array (e ∷ elements) = 91 ∷ (e ++ more_elements elements)
