use Rattle.std.proofs.Common.{◌∙◌}
use Rattle.run_hangs.proofs.TurnLemmas.{harts_alone_first}
use Rattle.run_hangs.proofs.hanging.runs_on_after_one.Goals as goal

pub returns : goal.returns
returns g c = c.some_run.ensures
    ∙ harts_alone_first _ c.args.harts c.args.steps c.args.hart _ _ _ (rw c.in_ok-copy.ensures at c.in_ok-go_on.ensures.run)
    c.in_ok-go_on-2.ensures.run c.ends.ensures
