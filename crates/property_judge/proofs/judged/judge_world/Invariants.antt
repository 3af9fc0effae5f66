use Rattle.std.proofs.Common.{◌≡◌}
use Rattle.machine.specs.Machine.{world}
use Rattle.property_judge.specs.Judged.{judged_at}
use Rattle.property_judge.proofs.JudgedLemmas.{first_judged}
use Rattle.property_judge.proofs.judged.judge_world.Given as goal

abbrev pub invariant-loop-each : goal.invariant-loop-each
invariant-loop-each g l = l.judged ≡ first_judged (judged_at l.done (world g.S.Store.memory l.machine)) l.each-index l.fn.judged
