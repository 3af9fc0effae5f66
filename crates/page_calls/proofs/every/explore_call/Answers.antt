use Rattle.page_calls.proofs.ShownLemmas.{unexplored_told}
use Rattle.page_calls.proofs.every.explore_call.Goals as goal

pub returns-in-Err-clause-told : goal.returns-in-Err-clause-told
returns-in-Err-clause-told g c =
    unexplored_told _ c.args.question c.args.inputs.now c.args.program.now _ c.in-Err.fault _
    c.refused_by.ensures.told c.refused_by.ensures.other c.in-Err.ensures.found
