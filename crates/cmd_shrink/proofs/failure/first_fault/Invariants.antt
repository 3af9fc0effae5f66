use Rattle.std.proofs.Common.{◌≡◌, map, drop}
use Rattle.hart_step.specs.Hart.{hart_of}
use Rattle.cmd_shrink.specs.Failure.{lowest_fault}
use Rattle.cmd_shrink.proofs.failure.first_fault.Given as goal

-- the harts that are left decide
abbrev pub invariant-harts : goal.invariant-harts
invariant-harts l = lowest_fault l.number (map hart_of (drop l.number l.harts)) ≡ lowest_fault 0 (map hart_of l.harts)
