use Rattle.std.specs.Prelude.{◌≡◌, ◌+◌, vec_len}
use Rattle.thread_run.proofs.runner.join_all.Given as goal

abbrev pub invariant-workers : goal.invariant-workers
invariant-workers g l = (l.all.parts + vec_len l.workers ≡ g.T.Ledger.parts) × (l.all.amount ≡ 0)

abbrev pub decreases-workers : goal.decreases-workers
decreases-workers g l = vec_len l.workers
