-- When each hart's last reservation ended.
use Rattle.std.specs.Prelude.{ℕ, Bool, true, false, ◌&&◌, nat_lt, Option, Some, None, slice_index_or, if◌then◌else◌}
use Rattle.hart_reservations.specs.Marks.{Marks}
use Rattle.trace_steps.specs.declared.ending.Ending.{Ending}
use Rattle.trace_steps.specs.declared.ending.Endings.{Endings}

-- the step that ended each hart's last reservation; none where it hasn't ended, or never was
abbrev pub Ends : Type 0
Ends = ℕ → Option Ending

-- whether a reservation is there before a step and none after it
abbrev pub has_ended : Option ℕ → Option ℕ → Bool
has_ended None after = false
has_ended (Some word) None = true
has_ended (Some word) (Some other) = false

-- the ends after a step, by the reservations of n harts before it and after it
abbrev pub ends_after : ℕ → Marks → Marks → Ending → Ends → Ends
ends_after n before after step ends = λ k. if nat_lt k n && has_ended (before k) (after k) then Some step else ends k

-- those that are kept
abbrev pub kept_ends : Endings → Ends
kept_ends e = λ k. slice_index_or e.last k None
