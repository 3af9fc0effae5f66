use Rattle.cmd_run.specs.File.{ShowsFile}
use Rattle.page_calls.proofs.ShownLemmas.{not_memory, refusal_told}
use Rattle.page_calls.proofs.showing.file_call.Goals as goal
use Rattle.page_calls.specs.Shown.{PrintsWell, RefusesFile}

pub returns-in-Err-clause-told : goal.returns-in-Err-clause-told
returns-in-Err-clause-told g c =
    refusal_told (PrintsWell (ShowsFile c.args.view c.args.file.now)) (RefusesFile c.args.file.now)
    _ c.in-Err.fault _
    c.refused_by.ensures.told c.refused_by.ensures.other
    (λ is. c.in-Err.ensures.err (not_memory _ is))
