use Rattle.std.proofs.Common.{◌≡◌}
use Rattle.hart_step.specs.Hart.{hart_of}
use Rattle.machine.specs.Machine.{world}
use Rattle.property_judge.specs.Judged.{judged_after}
use Rattle.property_judge.proofs.JudgedLemmas.{first_judged}
use Rattle.property_judge.proofs.judged.judge_after.Given as goal

abbrev pub invariant-loop-each : goal.invariant-loop-each
invariant-loop-each g l = l.judged ≡ first_judged (judged_after l.done (world g.S.Store.memory l.machine) (hart_of l.hart)) l.each-index l.fn.judged
