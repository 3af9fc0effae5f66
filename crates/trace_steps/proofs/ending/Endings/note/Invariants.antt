use Rattle.std.proofs.Common.{◌≡◌, ℕ, get_or, None}
use Rattle.hart_reservations.specs.Reserve.{marks}
use Rattle.trace_steps.specs.Ends.{ends_after, kept_ends}
use Rattle.trace_steps.proofs.ending.Endings.note.Given as goal

abbrev pub invariant-harts : goal.invariant-harts
invariant-harts l = (k : ℕ) → get_or l.self.last k None
    ≡ ends_after l.hart (marks l.before.reserve) (marks l.after.reserve) l.step (kept_ends l.fn.self) k
