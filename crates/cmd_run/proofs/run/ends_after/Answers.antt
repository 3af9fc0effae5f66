use Rattle.std.proofs.Common.{map, ap, sym, ◌∙◌}
use Rattle.hart_step.specs.Hart.{hart_of}
use Rattle.outcome.specs.Ends.{lines_of_ends}
use Rattle.outcome.specs.Expect.{status_of}
use Rattle.outcome.specs.declared.run_outcome.Outcome.{Outcome}
use Rattle.cmd_run.proofs.run.ends_after.Goals as goal

pub returns : goal.returns
returns g c = λ choices told.
    let harts = map hart_of c.args.harts.now in
    ap (λ (o : Outcome). (lines_of_ends o.verdict harts, status_of c.args.expect.exit o)) (sym (c.in_ok-outcome.ensures choices told))
    ∙ (λ i. (sym c.in_ok-text.ensures i, sym c.status-status.ensures i))
