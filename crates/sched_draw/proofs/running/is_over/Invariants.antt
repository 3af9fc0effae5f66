use Rattle.std.proofs.Common.{◌≡◌, ℕ, ◌<◌, ◌≤◌, true, false, map}
use Rattle.hart_step.specs.Hart.{hart_of}
use Rattle.machine.specs.Running.{runs}
use Rattle.sched_run.specs.Chosen.{harts_of}
use Rattle.sched_draw.proofs.running.is_over.Given as goal

-- the harts so far can do no more
abbrev pub invariant-harts : goal.invariant-harts
invariant-harts l =
    (hart : ℕ) → l.fn.span.start ≤ hart → hart < l.hart
    → (runs (map hart_of l.harts) hart ≡ false) × (harts_of l.chosen hart ≡ true)
