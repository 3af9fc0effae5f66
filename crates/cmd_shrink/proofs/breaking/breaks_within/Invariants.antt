use Rattle.std.proofs.Common.{◌≡◌, drop, is_some}
use Rattle.machine.specs.State.{state}
use Rattle.property_judge.specs.Broken.{first_broken}
use Rattle.cmd_shrink.proofs.breaking.breaks_within.Given as goal

-- the choices that are left decide
abbrev pub invariant-choices : goal.invariant-choices
invariant-choices g l =
    is_some (first_broken l.property (state l.machine) (drop l.choice-index l.choices))
    ≡ is_some (first_broken l.property (state l.fn.machine) l.choices)
