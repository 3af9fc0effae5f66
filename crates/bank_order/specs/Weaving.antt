-- Lists of segments merged to one.
use Rattle.std.specs.Prelude.{ℕ, Bool, ◌&&◌, ◌||◌, ◌==◌, nat_lt, List, [], ◌∷◌, slice_index_or, if◌then◌else◌}
use Rattle.bank_laws.specs.Segments.{LoggedSegment}

-- whether a segment comes before another: by stamp, then by hart number
abbrev pub comes_first : LoggedSegment → LoggedSegment → Bool
comes_first e f = nat_lt e.stamp f.stamp || (e.stamp == f.stamp && nat_lt e.hart f.hart)

-- two lists merged to one: the first of both heads, again and again
unfoldable pub woven : List LoggedSegment → List LoggedSegment → List LoggedSegment
woven [] fs = fs
woven (e ∷ es) [] = e ∷ es
woven (e ∷ es) (f ∷ fs) = if comes_first e f then e ∷ woven es (f ∷ fs) else f ∷ woven (e ∷ es) fs

-- lists merged one after another into one
unfoldable pub woven_with : List LoggedSegment → List (List LoggedSegment) → List LoggedSegment
woven_with out [] = out
woven_with out (log ∷ logs) = woven_with (woven out log) logs

-- the log of hart h, empty past the last hart
abbrev pub log_of : List (List LoggedSegment) → ℕ → List LoggedSegment
log_of logs h = slice_index_or logs h []
