-- Lists of what parts of a text denote.
use Rattle.std.specs.Prelude.{List, ◌∷◌, Option, Some, None}

-- an element before a list, if there are both
abbrev pub onto_list : {A : Type 0} → Option A → Option (List A) → Option (List A)
onto_list None list = None
onto_list (Some a) None = None
onto_list (Some a) (Some list) = Some (a ∷ list)
