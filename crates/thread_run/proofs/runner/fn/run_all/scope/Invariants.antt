use Rattle.std.specs.Prelude.{◌≡◌, ◌+◌, vec_len}
use Rattle.thread_run.proofs.runner.fn.run_all.scope.Given as goal

abbrev pub invariant-harts : goal.invariant-harts
invariant-harts g l = (l.all.parts + l.hart ≡ g.T.Ledger.parts) × (l.all.amount ≡ l.all.parts) × (vec_len l.workers ≡ l.hart)
