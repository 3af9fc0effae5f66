use Rattle.std.proofs.Common.{◌≡◌, take, map}
use Rattle.hart_step.specs.Hart.{hart_of}
use Rattle.explore_space.specs.Places.{hart_worded}
use Rattle.explore_space.proofs.failing.harts_by_key.Given as goal

abbrev pub invariant-harts : goal.invariant-harts
invariant-harts g l = map hart_of l.ends.items ≡ map (hart_worded l.harts) (take l.k l.key)
