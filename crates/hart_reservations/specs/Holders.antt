-- The harts that may have a reservation.
use Rattle.std.specs.Prelude.{◌≡◌, ℕ, Bool, true, false, not, ◌==◌, if◌then◌else◌, None}
use Rattle.hart_reservations.specs.declared.holders.Holders.{Holders}
use Rattle.hart_reservations.specs.declared.holders.Holders.TheVariants.{Nobody, Only, Several}
use Rattle.hart_reservations.specs.Marks.{Marks}

-- with one more hart
abbrev pub holders_with : Holders → ℕ → Holders
holders_with Nobody h = Only h
holders_with (Only k) h = if k == h then Only k else Several
holders_with Several h = Several

-- after a hart's reservation has ended
abbrev pub left_by : Holders → ℕ → Holders
left_by Nobody h = Nobody
left_by (Only k) h = if k == h then Nobody else Only k
left_by Several h = Several

-- whether a hart other than h may have a reservation
abbrev pub has_other : Holders → ℕ → Bool
has_other Nobody h = false
has_other (Only k) h = not (k == h)
has_other Several h = true

-- whether hart k may have one
abbrev pub may_hold : Holders → ℕ → Bool
may_hold Nobody k = false
may_hold (Only h) k = h == k
may_hold Several k = true

-- no hart has a reservation that may have none
abbrev pub Covers : Holders → Marks → Type 0
Covers holders r = (k : ℕ) → may_hold holders k ≡ false → r k ≡ None
