use Rattle.std.proofs.Common.{◌∙◌, sym, ap, [], ◌∷◌, Option}
use Rattle.std.specs.Prelude.{option_to_list}
use Rattle.bank_laws.specs.declared.access.LoggedAccess.{LoggedAccess}
use Rattle.bank_hart_log.specs.HartLog.{image_table}
use Rattle.bank_hart_log.specs.LastStep.{access_list, slot_is}
use Rattle.bank_hart_log.specs.declared.step.Accesses.{Accesses}
use Rattle.bank_step.specs.Told.{told_word}
use Rattle.bank_hart_log.proofs.StepLemmas.{fits_in_code}
use Rattle.bank_hart_log.proofs.step.step_in_code.Goals as goal

pub returns-in-None-second : goal.returns-in-None-second
returns-in-None-second g c =
    fits_in_code (image_table c.args.image.now) c.args.segment.now (slot_is c.args.slot.now) (c.in-Some.field-0.first ∷ []) _ c.requires.code
    (ap (λ (o : Option LoggedAccess). c.in-Some.field-0.first ∷ option_to_list o) (sym c.in-None-second.is)
    ∙ ap (λ (a : Option Accesses). access_list a) (sym c.in-Some.is) ∙ c.requires.accesses)
    (c.data_step-in-None-second.ensures [] (ap (λ o. told_word o []) (sym c.requires.code)))
