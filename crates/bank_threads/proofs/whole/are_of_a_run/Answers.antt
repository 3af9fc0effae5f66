use Rattle.bank_threads.proofs.RunLemmas.{is_banked, ordered_matched}
use Rattle.bank_threads.proofs.whole.are_of_a_run.Goals as goal

pub returns-then-ordered : goal.returns-then-ordered
returns-then-ordered g c = λ all.
    let banks = c.are_of_banks.ensures c.if-not-are_of_banks.false in
    let harts = c.in_ok-ordered.ensures c.if-ordered.true in
    is_banked _ _ _ _ _ _ c.segments.ensures.sound (harts.0, λ h l at. (harts.1 h l at).0) banks
    (ordered_matched c.args.image.now c.args.inputs.now c.args.budget c.args.plan.now.keys c.args.logs.now c.args.banks.now banks.0 harts (c.have_no_others.ensures.0 all))
