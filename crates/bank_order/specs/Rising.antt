-- Whether the stamps of a log rise, as a test.
use Rattle.std.specs.Prelude.{ℕ, Bool, true, ◌&&◌, nat_lt, List, [], ◌∷◌, Option, Some, None}
use Rattle.bank_laws.specs.Segments.{LoggedSegment}

-- whether a stamp is above the last one, if there is one
abbrev pub is_above : Option ℕ → ℕ → Bool
is_above None stamp = true
is_above (Some last) stamp = nat_lt last stamp

-- whether each stamp is above the one before, and the first above a given one, if any
abbrev pub rises_above : Option ℕ → List LoggedSegment → Bool
rises_above last [] = true
rises_above last (e ∷ es) = is_above last e.stamp && rises_above (Some e.stamp) es
