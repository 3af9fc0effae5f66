use Rattle.machine.specs.Machine.{world}
use Rattle.campaign_bounded.specs.Walk.{schedules_left}
use Rattle.cmd_bounded.specs.Told.{told_value}
use Rattle.cmd_bounded.proofs.RangeLemmas.{SoFar}
use Rattle.cmd_bounded.proofs.ranged.tell_range.Given as goal

-- so many runs are told, and the others are left
abbrev pub invariant-schedules : goal.invariant-schedules
invariant-schedules g l =
    SoFar l.campaign (world g.S.Store.memory l.start) l.inputs (schedules_left g.S.Store.memory l.initial.walk) (schedules_left g.S.Store.memory l.walk)
    (told_value l.initial.told) (told_value l.told) l.done
