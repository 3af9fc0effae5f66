use Rattle.std.proofs.Common.{◌≡◌, take}
use Rattle.machine.specs.State.{state}
use Rattle.machine.specs.World.{run}
use Rattle.run_hangs.proofs.running.take_steps.Given as goal

-- the choices so far were run
abbrev pub invariant-choices : goal.invariant-choices
invariant-choices g l = state l.machine ≡ run (state l.fn.machine) (take l.choice-index l.choices)
