use Rattle.std.proofs.Common.{length, map, take, ap, sym, ◌∙◌}
use Rattle.hart_step.specs.Hart.{hart_of}
use Rattle.outcome.specs.Expect.{fails, judged}
use Rattle.outcome.specs.declared.expect.Exit.TheVariants.{May}
use Rattle.explore_space.specs.Failing.{one_each}
use Rattle.explore_space.specs.Places.{chosen_by_key}
use Rattle.explore_space.proofs.MarkLemmas.{marks_are}
use Rattle.explore_space.proofs.RunningLemmas.{nobody_fails}
use Rattle.explore_space.proofs.failing.fails_at.Goals as goal

pub returns : goal.returns
returns g c =
    let n = length c.args.inputs.now in
    let key = c.args.key.now in
    c.fails.ensures ∙ ap (fails May) (c.in_ok-outcome.ensures (one_each n (chosen_by_key n key)) (λ k. c.chosen_by_key-chosen.ensures k ∙ marks_are n key k)
    ∙ ap (judged c.args.rule c.args.inputs.now (one_each n (chosen_by_key n key))) (ap (map hart_of) c.deref.ensures.value ∙ c.in_ok-ends.ensures))

pub returns-then-all_run : goal.returns-then-all_run
returns-then-all_run g c =
    let n = length c.args.inputs.now in
    let key = c.args.key.now in
    sym (nobody_fails c.args.harts.now c.args.inputs.now (take n key) (one_each n (chosen_by_key n key)) (sym c.all_run.ensures ∙ c.if-all_run.true) c.args.rule)
