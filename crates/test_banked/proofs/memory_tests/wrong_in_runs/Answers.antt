use Rattle.std.proofs.Crossing.{frees}
use Rattle.test_banked.proofs.memory_tests.wrong_in_runs.Goals as goal

-- any thread may free a block of the host's heap, and so of an allocator that passes it on
pub ask_run-requires-frees-A-Allocator : goal.ask_run-requires-frees-A-Allocator
ask_run-requires-frees-A-Allocator g c κs _ = record { frees = λ r. frees.frees r.now.inner }
