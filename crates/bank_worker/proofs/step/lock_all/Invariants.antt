use Rattle.std.proofs.Common.{◌≡◌, vec_len}
use Rattle.bank_worker.proofs.step.lock_all.Given as goal

abbrev pub invariant-banks : goal.invariant-banks
invariant-banks g l = vec_len l.held ≡ l.bank-index
