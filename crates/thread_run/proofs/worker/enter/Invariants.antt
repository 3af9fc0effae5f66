use Rattle.std.proofs.Common.{◌≡◌, ◌≤◌}
use Rattle.thread_run.proofs.worker.enter.Given as goal

abbrev pub invariant-tries : goal.invariant-tries
invariant-tries g l =
    (l.ticket.parts ≡ l.fn.ticket.parts) × (l.ticket.amount ≡ 1) × (l.seat.local ≡ 0) × (l.limit ≤ l.left)

abbrev pub decreases-tries : goal.decreases-tries
decreases-tries g l = l.limit
