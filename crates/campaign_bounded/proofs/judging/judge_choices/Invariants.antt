use Rattle.machine.specs.Machine.{world}
use Rattle.property_judge.proofs.RunLemmas.{JudgedSoFar}
use Rattle.campaign_bounded.proofs.judging.judge_choices.Given as goal

-- the choices before the index are done, and the worlds before them are judged
abbrev pub invariant-choices : goal.invariant-choices
invariant-choices g l = JudgedSoFar l.done (world g.S.Store.memory l.initial.machine) (world g.S.Store.memory l.machine)
    l.choices l.initial.judged l.judged
