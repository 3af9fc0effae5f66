use Rattle.std.proofs.Common.{◌≡◌, map, ap, sym, ◌∙◌}
use Rattle.hart_step.specs.Hart.{hart_of}
use Rattle.history.specs.History.{expanded}
use Rattle.cmd_run.specs.Run.{shown_with}
use Rattle.outcome.specs.Ends.{verdict_on}
use Rattle.cmd_replay.proofs.ShownLemmas.{verdict_alike}
use Rattle.cmd_replay.proofs.shown.shown_after.Goals as goal

pub returns : goal.returns
returns g c =
    let harts = map hart_of c.args.harts.now in
    let same : verdict_on c.args.expect.rule c.args.inputs.now c.deref.result.now harts ≡ verdict_on c.args.expect.rule c.args.inputs.now (expanded c.args.history.now) harts
    = ap (λ cs. verdict_on c.args.expect.rule c.args.inputs.now cs harts) c.deref.ensures.value
    ∙ verdict_alike c.args.expect.rule c.args.inputs.now c.in_ok-chosen.chosen.items (expanded c.args.history.now) harts c.in_ok-chosen.ensures in
    ap (λ v. shown_with c.args.expect.exit v harts) (sym same) ∙ c.in_ok-answer.ensures
