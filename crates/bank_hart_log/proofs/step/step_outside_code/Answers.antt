use Rattle.std.proofs.Common.{◌∙◌, sym, ap, Option}
use Rattle.bank_hart_log.specs.HartLog.{image_table}
use Rattle.bank_hart_log.specs.LastStep.{access_list, slot_is}
use Rattle.bank_hart_log.specs.declared.step.Accesses.{Accesses}
use Rattle.bank_step.specs.Told.{told_word}
use Rattle.bank_hart_log.proofs.StepLemmas.{fits_outside}
use Rattle.bank_hart_log.proofs.step.step_outside_code.Goals as goal

pub returns : goal.returns
returns g c =
    fits_outside (image_table c.args.image.now) c.args.segment.now (slot_is c.args.slot.now) c.args.word c.in-Some.accesses.first _ _ c.requires.code
    (ap (λ (a : Option Accesses). access_list a) (sym c.in-Some.is) ∙ c.requires.accesses)
    (c.is_code_read.ensures.0 c.if-not-is_code_read.false)
    (c.data_step.ensures c.in-Some.accesses.first.before (ap (λ o. told_word o c.in-Some.accesses.first.before) (sym c.requires.code)))
