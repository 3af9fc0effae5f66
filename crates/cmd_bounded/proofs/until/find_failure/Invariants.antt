use Rattle.machine.specs.Machine.{world}
use Rattle.campaign_bounded.specs.Walk.{schedules_left}
use Rattle.cmd_bounded.proofs.UntilLemmas.{NoneSoFar}
use Rattle.cmd_bounded.proofs.until.find_failure.Given as goal

-- so many runs are done, and none of them has failed
abbrev pub invariant-schedules : goal.invariant-schedules
invariant-schedules g l =
    NoneSoFar l.campaign (world g.S.Store.memory l.start) l.inputs (schedules_left g.S.Store.memory l.initial.walk)
    (schedules_left g.S.Store.memory l.walk) l.done
