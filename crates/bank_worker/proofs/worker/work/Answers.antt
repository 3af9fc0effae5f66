use Rattle.std.proofs.Common.{ap, arith, refl, subst, sym, ◌+◌}
use Rattle.thread_gate.specs.Plan.{is_planned}
use Rattle.bank_hart_log.specs.HartLog.{HartLogValue}
use Rattle.bank_worker.specs.Worked.{IsWorking}
use Rattle.bank_worker.proofs.WorkedLemmas.{works_first, works_on}
use Rattle.bank_worker.proofs.worker.work.Goals as goal

pub choices-init : goal.choices-init
choices-init g c =
    subst (λ (l : HartLogValue). IsWorking c.args.job.now.image.now c.args.hart c.args.job.now.budget c.args.job.now.plan.now.keys l 0)
    (sym c.new-log.ensures) (works_first _ _ _ _ _)

pub choices-preserved : goal.choices-preserved
choices-preserved g c =
    let works = c.choices.invariant in
    let room = c.in_ok-local.ensures.room in
    works_on _ _ _ _ c.choices.log c.log_next.new.log _ c.choices.made _ works c.in_ok-local.ensures.adds
    (ap (λ (h : _). is_planned c.args.job.now.plan.now.keys h (c.choices.made + c.in_ok-local.local)) works.number) refl (omega arith) (omega (arith, room))
