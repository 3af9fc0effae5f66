use Rattle.page_calls.proofs.ShownLemmas.{unshrunk_told}
use Rattle.page_calls.proofs.schedules.shrink_call.Goals as goal

pub returns-in-Err-clause-told : goal.returns-in-Err-clause-told
returns-in-Err-clause-told g c =
    unshrunk_told c.args.expect c.args.inputs.now c.args.program.now c.args.choices.now _ _ _
    c.in-Err.fault _ c.new-program.ensures.left c.new-choices.ensures.left
    c.refused_by.ensures.told c.refused_by.ensures.other c.in-Err.ensures.refused
