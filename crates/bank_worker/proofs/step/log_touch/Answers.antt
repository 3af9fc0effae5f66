use Rattle.std.proofs.Common.{ap, sym, ◌∙◌}
use Rattle.hart_reservations.specs.Marks.{names}
use Rattle.bank_laws.specs.Segments.{LoggedSegment}
use Rattle.bank_memory.specs.BankLog.{state_of}
use Rattle.bank_hart_log.specs.HartLog.{image_table}
use Rattle.bank_hart_log.specs.LastStep.{slot_is}
use Rattle.bank_step.specs.Told.{as_touch, told_word}
use Rattle.bank_worker.proofs.OutsideLemmas.{touch_back, touch_fits}
use Rattle.bank_worker.proofs.step.log_touch.Goals as goal

-- the access is the one of the touch, by what was found
pub log_access-requires : goal.log_access-requires
log_access-requires g c =
    let found = c.found_in-found.result in
    touch_fits (image_table c.args.image.now) c.args.bank.now c.args.segment.now _ c.args.code.bytes (as_touch c.args.touch) found.bytes found.mark _ c.data_access-access.result
    (c.data_access-access.ensures c.args.code.bytes (ap (λ o. told_word o c.args.code.bytes) (sym c.requires.need)) c.requires.plan)
    c.requires.there c.requires.aligned c.requires.its_bank c.requires.follows c.found_in-found.ensures.bytes
    (c.found_in-found.ensures.mark ∙ ap (λ (e : LoggedSegment). names ((state_of c.args.bank.now).marks e.hart) c.args.touch.word) c.segment.view_is)

pub returns-in-Ok-clause-touches : goal.returns-in-Ok-clause-touches
returns-in-Ok-clause-touches g c =
    let found = c.found_in-found.result in
    touch_back (image_table c.args.image.now) c.args.segment.now (slot_is c.args.slot.now) c.args.code.bytes (as_touch c.args.touch) found.bytes found.mark c.data_access-access.result
    (c.data_access-access.ensures c.args.code.bytes (ap (λ o. told_word o c.args.code.bytes) (sym c.requires.need)) c.requires.plan)
