use Rattle.std.specs.Prelude.{vec_len}
use Rattle.bank_threads.proofs.runner.join_all.Given as goal

abbrev pub decreases-workers : goal.decreases-workers
decreases-workers g l = vec_len l.workers
