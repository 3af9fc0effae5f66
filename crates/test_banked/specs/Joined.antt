-- Banks as their marks alone.
use Rattle.std.specs.Prelude.{ℕ, List, [], Option, Some, None, slice_get}
use Rattle.hart_reservations.specs.Marks.{Marks, with_mark}
use Rattle.hart_reservations.specs.Reserve.{marks}
use Rattle.hart_reservations.specs.declared.reserve.Reserve.{Reserve}
use Rattle.bank_laws.specs.Banks.{BankState}

-- a bank's marks, none if there is no bank
abbrev pub marks_of : Option Reserve → Marks
marks_of None = λ h. None
marks_of (Some r) = marks r

-- banks that have these marks, one after another
abbrev pub banks_with : List Reserve → ℕ → BankState
banks_with banks b = record { values = λ x. []; marks = marks_of (slice_get banks b) }

-- hart h has reserved the word, if one is given
abbrev pub with_mark_if : Marks → ℕ → Option ℕ → Marks
with_mark_if m h None = m
with_mark_if m h (Some word) = with_mark m h word
