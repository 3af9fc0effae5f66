use Rattle.std.proofs.Common.{◌∙◌, sym, subst, arith, ◌≡◌, true}
use Rattle.hart_step.specs.Hart.{hart_of}
use Rattle.machine.specs.Machine.{world}
use Rattle.property_judge.specs.Reach.{is_out_of_reach}
use Rattle.property_judge.proofs.ReachLemmas.{all_stay_out}
use Rattle.property_judge.proofs.judged.judge_in_reach.Goals as goal

pub returns-then-is_out_of_reach : goal.returns-then-is_out_of_reach
returns-then-is_out_of_reach g c =
    all_stay_out c.args.done (world g.S.Store.memory c.args.machine.now) (hart_of c.args.hart.now) c.args.judged.now
    (omega (arith, c.is_out_of_reach.ensures.word))
    (subst (λ r. is_out_of_reach r (hart_of c.args.hart.now) ≡ true) c.requires (sym c.is_out_of_reach.ensures.elsewhere ∙ c.if-is_out_of_reach.true))
