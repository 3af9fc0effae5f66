-- A store-conditional fails where there is a reason, and nowhere else.
use Rattle.std.proofs.Common.{◌≡◌, ℕ, Bool, true, false, not, ◌&&◌, cond, eqb, Option, Some, None, refl, is_some}
use Rattle.hart_reservations.specs.Marks.{names}
use Rattle.trace_steps.specs.Failures.{sc_failure, with_reservation}
use Rattle.trace_steps.specs.declared.ending.Ending.{Ending}

by_word : (word address : ℕ) (refuse is : Bool) → eqb word address ≡ is
    → is_some (with_reservation word address refuse) ≡ not (eqb word address && not refuse)
by_word word address true true e = rw e refl
by_word word address false true e = rw e refl
by_word word address true false e = rw e refl
by_word word address false false e = rw e refl

pub fails_for_a_reason : (held : Option ℕ) (address h : ℕ) (refuse : Bool) (last : Option Ending)
    → is_some (sc_failure held address refuse h last) ≡ not (names held address && not refuse)
fails_for_a_reason None address h refuse last = refl
fails_for_a_reason (Some word) address h refuse last = by_word word address refuse (eqb word address) refl
