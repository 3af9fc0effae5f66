use Rattle.std.proofs.Common.{◌≡◌, ◌++◌, drop, map}
use Rattle.hart_step.specs.Hart.{hart_of}
use Rattle.cmd_threads.specs.BankedAnswer.{hart_of_log}
use Rattle.cmd_threads.proofs.answer.harts_of.Given as goal

-- the harts so far, and those of the logs that are left
abbrev pub invariant-logs : goal.invariant-logs
invariant-logs g l = map hart_of l.harts.items ++ map hart_of_log (drop l.log-index l.logs) ≡ map hart_of_log l.logs
