use Rattle.std.proofs.Common.{[], ◌∷◌, ◌∙◌, arith, subst, sym}
use Rattle.bank_hart_log.specs.HartLog.{FitsLog}
use Rattle.bank_step.specs.Told.{as_touch}
use Rattle.bank_worker.specs.Worked.{IsOfWalk}
use Rattle.bank_worker.proofs.OutsideLemmas.{above_two, next_above_all, of_walk_with, touch_fits_log}
use Rattle.bank_worker.proofs.WorkedLemmas.{steps_on_ok}
use Rattle.bank_worker.proofs.step.step_in_two_banks.Goals as goal

pub log_read-requires-clause-above : goal.log_read-requires-clause-above
log_read-requires-clause-above g c =
    let low = (above_two c.args.walked.now.next.last_stamp c.last_stamp.result c.last_stamp-2.result c.in_ok-segment.segment.stamp c.in_ok-segment.ensures.stamp).0 in
    omega (arith, low, c.last_stamp.ensures)

pub log_touch-requires-clause-follows : goal.log_touch-requires-clause-follows
log_touch-requires-clause-follows g c =
    let low = (above_two c.args.walked.now.next.last_stamp c.last_stamp.result c.last_stamp-2.result c.in_ok-segment.segment.stamp c.in_ok-segment.ensures.stamp).1 in
    next_above_all c.args.data_bank.now c.in_ok-segment.segment c.each_bank_is_logged.ensures (omega (arith, low, c.last_stamp-2.ensures))

pub log_segment-requires : goal.log_segment-requires
log_segment-requires g c =
    subst (FitsLog c.args.log.now) (sym c.with_accesses.ensures)
    (touch_fits_log c.args.job.now.image.now c.args.log.now c.in_ok-segment.segment c.args.walked.now c.requires.next c.in_ok-segment.ensures.walked
    c.args.code.address c.in_ok-code_read.code_read c.in_ok-access.access c.args.code.bytes (as_touch c.args.touch) c.requires.need c.in_ok-code_read.ensures.read.0
    (c.in_ok-code_read.ensures.read.1 ∙ c.requires.bytes.0) c.requires.plan c.in_ok-access.ensures.touches)

pub returns : goal.returns
returns g c =
    steps_on_ok c.log_segment.result _ _ c.with_accesses.result c.args.walked.now.next
    (subst (IsOfWalk c.args.walked.now.next) (sym c.with_accesses.ensures)
    (of_walk_with c.args.job.now.image.now c.args.log.now c.in_ok-segment.segment c.args.walked.now c.requires.next c.in_ok-segment.ensures.walked (c.in_ok-code_read.code_read ∷ c.in_ok-access.access ∷ [])))
    c.log_segment.ensures.added
