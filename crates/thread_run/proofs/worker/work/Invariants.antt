use Rattle.std.proofs.Common.{◌≡◌}
use Rattle.thread_run.proofs.worker.work.Given as goal

abbrev pub invariant-choices : goal.invariant-choices
invariant-choices g l = (l.ticket.parts ≡ 1) × (l.ticket.amount ≡ 1) × (l.seat.local ≡ 0)

abbrev pub decreases-choices : goal.decreases-choices
decreases-choices g l = l.left
