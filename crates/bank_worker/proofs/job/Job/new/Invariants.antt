use Rattle.std.proofs.Common.{◌≡◌, vec_len}
use Rattle.bank_worker.proofs.job.Job.new.Given as goal

abbrev pub invariant-banks : goal.invariant-banks
invariant-banks g l = vec_len l.banks ≡ l.number
