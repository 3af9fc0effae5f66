-- The map of the array of reservations.
use Rattle.hart_reservations.specs.Marks.{Marks, mark_at}
use Rattle.hart_reservations.specs.declared.reserve.Reserve.{Reserve}

-- the word that each hart has reserved
abbrev pub marks : Reserve → Marks
marks r = mark_at r.words
