use Rattle.std.proofs.Common.{Some, ap, map, sym, ◌∙◌}
use Rattle.hart_step.specs.Hart.{hart_of}
use Rattle.outcome.specs.Ends.{verdict_on}
use Rattle.object_library.specs.Judging.{verdict_of}
use Rattle.object_library.proofs.ChosenLemmas.{same_verdict}
use Rattle.outcome.proofs.expect.verdict_after.Goals as goal

pub returns : goal.returns
returns g c = λ choices told.
    let harts = map hart_of c.args.harts.now in
    let inputs = c.args.inputs.now in
    let picked = c.in_ok-picked.picked.items in
    ap Some
    (c.judge-verdict.ensures.verdict
    ∙ ap (λ cs. verdict_of c.in-Some.kind inputs cs harts) c.deref.ensures.value
    ∙ same_verdict c.in-Some.kind inputs picked choices harts (λ k. c.in_ok-picked.ensures k ∙ told k))
    ∙ sym (ap (λ rule. verdict_on rule inputs choices harts) c.in-Some.is)
