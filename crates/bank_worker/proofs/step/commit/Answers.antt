use Rattle.std.proofs.Common.{ap, sym, subst, ◌∙◌}
use Rattle.bank_laws.specs.Segments.{LoggedSegment}
use Rattle.bank_memory.specs.BankLog.{RefusesAccess}
use Rattle.bank_memory.specs.declared.bank.AddFault.{AddFault}
use Rattle.bank_worker.proofs.WalkedLemmas.{finds_here, fits_bank, stamped_next}
use Rattle.bank_worker.proofs.step.commit.Goals as goal

pub unreachable-requires : goal.unreachable-requires
unreachable-requires g c =
    let bank = c.args.bank.now in
    let access = c.in-Ok.access in
    let touches = c.in-Ok.ensures.touches in
    let finds = c.in-Ok.ensures.finds in
    let hart = touches.0 ∙ sym (ap (λ (e : LoggedSegment). e.hart) c.segment.view_is) in
    subst (λ (fault : AddFault). RefusesAccess bank access fault) c.in-Err-Mismatch.field-0-is c.in-Err-Mismatch.ensures.fault
    (fits_bank bank c.args.log.now c.args.segment access c.args.touch.touch.word c.each_bank_is_logged.ensures c.requires.there c.requires.next.touches.aligned
    c.requires.its_bank c.requires.stamp touches.0 touches.1
    (finds_here bank access c.segment.inside.hart c.args.touch.touch.word c.found_in-found.result.bytes c.found_in-found.result.mark
    finds.0 finds.1 c.found_in-found.ensures.bytes c.found_in-found.ensures.mark hart touches.1)
    c.in-Ok.ensures.ok.0)

pub returns-in-Ok-add_found-clause-stamped : goal.returns-in-Ok-add_found-clause-stamped
returns-in-Ok-add_found-clause-stamped g c =
    stamped_next c.args.bank.now c.add_found.new.self c.args.log.now c.args.segment c.in-Ok.access c.requires.stamp
    c.in-Ok-add_found.ensures.ok.1 c.in-Ok.ensures.ok.0
