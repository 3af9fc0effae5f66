use Rattle.std.proofs.Common.{[], ◌∷◌, ◌∙◌, arith, subst, sym}
use Rattle.bank_hart_log.specs.HartLog.{FitsLog}
use Rattle.bank_worker.specs.Worked.{IsOfWalk}
use Rattle.bank_worker.proofs.OutsideLemmas.{above_one, of_walk_with, read_fits_log}
use Rattle.bank_worker.proofs.WorkedLemmas.{steps_on_ok}
use Rattle.bank_worker.proofs.step.step_to_nothing.Goals as goal

pub log_read-requires-clause-above : goal.log_read-requires-clause-above
log_read-requires-clause-above g c =
    let low = above_one c.args.walked.now.next.last_stamp c.last_stamp.result c.in_ok-segment.segment.stamp c.in_ok-segment.ensures.stamp in
    omega (arith, low, c.last_stamp.ensures)

pub log_segment-requires : goal.log_segment-requires
log_segment-requires g c =
    subst (FitsLog c.args.log.now) (sym c.with_accesses.ensures)
    (read_fits_log c.args.job.now.image.now c.args.log.now c.in_ok-segment.segment c.args.walked.now c.requires.next c.in_ok-segment.ensures.walked
    c.args.code.address c.in_ok-code_read.code_read c.args.code.bytes c.requires.need c.in_ok-code_read.ensures.read.0
    (c.in_ok-code_read.ensures.read.1 ∙ c.requires.bytes.0) c.requires.plan)

pub returns : goal.returns
returns g c =
    steps_on_ok c.log_segment.result _ _ c.with_accesses.result c.args.walked.now.next
    (subst (IsOfWalk c.args.walked.now.next) (sym c.with_accesses.ensures)
    (of_walk_with c.args.job.now.image.now c.args.log.now c.in_ok-segment.segment c.args.walked.now c.requires.next c.in_ok-segment.ensures.walked (c.in_ok-code_read.code_read ∷ [])))
    c.log_segment.ensures.added
