use Rattle.std.proofs.Common.{◌≡◌, true, false, List, length, map, ap, sym, ◌∙◌, subst}
use Rattle.hart_step.specs.Hart.{HartValue, hart_of}
use Rattle.outcome.specs.Expect.{judged}
use Rattle.outcome.specs.Outcome.{some_run}
use Rattle.explore_space.specs.Ends.{EndValue, AddsEnd, end_at, ends_in, harts_at, returned_by}
use Rattle.explore_space.specs.Failing.{one_each}
use Rattle.explore_space.specs.Places.{chosen_by_key}
use Rattle.explore_space.proofs.EndLemmas.{at_running, at_stopped}
use Rattle.explore_space.proofs.MarkLemmas.{marks_are}
use Rattle.explore_space.proofs.ending.add_end_at.Goals as goal

pub returns-then-runs : goal.returns-then-runs
returns-then-runs g c keys are =
    let harts_are : map hart_of c.as_slice-stopped.result.now ≡ harts_at c.args.inputs.now c.args.harts.now c.args.key.now
    = ap (map hart_of) c.as_slice-stopped.ensures.value ∙ c.in_ok-by_key.ensures in
    let runs : some_run (harts_at c.args.inputs.now c.args.harts.now c.args.key.now) ≡ true
    = ap (λ (hs : List HartValue). some_run hs) (sym harts_are) ∙ sym c.some_run-runs.ensures ∙ c.if-runs.true in
    at_running c.args.rule c.args.inputs.now c.args.harts.now keys (ends_in c.args.ends.now) c.args.key.now runs are

pub returns : goal.returns
returns g c keys are =
    let n = length c.args.inputs.now in
    let key = c.args.key.now in
    let harts_are : map hart_of c.as_slice-stopped.result.now ≡ harts_at c.args.inputs.now c.args.harts.now c.args.key.now
    = ap (map hart_of) c.as_slice-stopped.ensures.value ∙ c.in_ok-by_key.ensures in
    let stops : some_run (harts_at c.args.inputs.now c.args.harts.now c.args.key.now) ≡ false
    = ap (λ (hs : List HartValue). some_run hs) (sym harts_are) ∙ sym c.some_run-runs.ensures ∙ c.if-runs.false in
    let outcome = c.in_ok-outcome.ensures (one_each n (chosen_by_key n key)) (λ k. c.chosen_by_key-chosen.ensures k ∙ marks_are n key k)
    ∙ ap (judged c.args.rule c.args.inputs.now (one_each n (chosen_by_key n key))) harts_are in
    let returned = c.in_ok-returned.ensures ∙ ap (map returned_by) harts_are in
    let end_is : ◌≡◌ {A = EndValue} (record { outcome = c.in_ok-outcome.outcome; returned = c.in_ok-returned.returned.items })
    (end_at c.args.rule c.args.inputs.now c.args.harts.now c.args.key.now)
    = λ i. record { outcome = outcome i; returned = returned i } in
    at_stopped c.args.rule c.args.inputs.now c.args.harts.now keys (ends_in c.args.ends.now) (ends_in c.add.new.self) c.args.key.now stops
    (subst (λ end. AddsEnd (ends_in c.args.ends.now) end (ends_in c.add.new.self)) end_is c.in_ok-add.ensures) are
