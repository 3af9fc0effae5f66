use Rattle.std.proofs.Common.{◌≡◌, ◌++◌, drop, map}
use Rattle.hart_step.specs.Hart.{hart_of}
use Rattle.explore_space.specs.Ends.{returned_by}
use Rattle.explore_space.proofs.run_end.returned_by_harts.Given as goal

-- those that are there, and those of the harts that are left
abbrev pub invariant-harts : goal.invariant-harts
invariant-harts g l = l.returned.items ++ map returned_by (map hart_of (drop l.hart-index l.harts)) ≡ map returned_by (map hart_of l.harts)
