use Rattle.std.proofs.Common.{ℕ, Bool, false, List, take, get_or, ap, sym, ◌∙◌, arith}
use Rattle.std.proofs.lemmas.List.{take_all, take_more}
use Rattle.machine.specs.Chosen.{is_chosen}
use Rattle.machine.specs.declared.choice.Choice.{Choice}
use Rattle.sched_run.specs.Chosen.{harts_of}
use Rattle.explore_space.proofs.MarkLemmas.{chosen_more}
use Rattle.explore_space.proofs.judging.chosen_by.Goals as goal

pub choices-init : goal.choices-init
choices-init c = λ k. ap (λ (f : ℕ → Bool). f k) c.new-chosen.ensures

pub choices-preserved : goal.choices-preserved
choices-preserved c = λ k.
    let cs = c.args.choices.now in
    let i = c.choices.choice-index in
    let turn : Choice = get_or cs i (record { hart = 0; refuse = false }) in
    ap (λ (f : ℕ → Bool). f k) c.add.ensures
    ∙ chosen_more (harts_of c.choices.chosen) (take i cs) turn k (c.choices.invariant k)
    ∙ ap (λ (xs : List Choice). is_chosen xs k) (sym (take_more cs i (record { hart = 0; refuse = false }) c.choices-test.true))

pub returns : goal.returns
returns c = λ k.
    let past = c.choices-test.false in
    c.choices.invariant k ∙ ap (λ (xs : List Choice). is_chosen xs k) (take_all c.choices.choice-index c.args.choices.now (omega (arith, past)))
