use Rattle.std.proofs.Crossing.{frees}
use Rattle.test_threads.proofs.runner_tests.short_run.Goals as goal

-- any thread may give a block back to the host's heap, and so to an allocator that passes it on
pub run-requires-frees-A-Allocator : goal.run-requires-frees-A-Allocator
run-requires-frees-A-Allocator g c κs _ = record { frees = λ r. frees.frees r.now.inner }
