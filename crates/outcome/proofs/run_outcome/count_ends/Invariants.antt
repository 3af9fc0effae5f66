use Rattle.std.proofs.Common.{◌≡◌, ◌+◌, ◌≤◌, drop, map}
use Rattle.hart_step.specs.Hart.{hart_of}
use Rattle.outcome.specs.Outcome.{counted}
use Rattle.outcome.proofs.run_outcome.count_ends.Given as goal

-- those that are counted, and those of the harts that are left
abbrev pub invariant-harts : goal.invariant-harts
invariant-harts l =
    (l.count + counted l.wanted (map hart_of (drop l.hart-index l.harts)) ≡ counted l.wanted (map hart_of l.harts))
    × (l.count ≤ l.hart-index)
