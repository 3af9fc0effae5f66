use Rattle.std.proofs.Common.{◌≡◌, List, length, true, ap, sym, ◌∙◌, subst}
use Rattle.machine.specs.Start.{started}
use Rattle.machine.specs.declared.choice.Choice.{Choice}
use Rattle.explore_search.specs.Answers.{LeadsToBad}
use Rattle.explore_space.specs.Begun.{turns_start}
use Rattle.explore_space.specs.Every.{FailsFirst, meant_choices, run_fails}
use Rattle.explore_space.specs.Failing.{ends_search}
use Rattle.explore_space.specs.Habits.{habits_of}
use Rattle.explore_space.proofs.EveryLemmas.{bad_clear, bad_good, bad_is_bad, unowned_fails}
use Rattle.explore_space.proofs.exploring.bad_answer.Goals as goal

pub returns-clause-holds : goal.returns-clause-holds
returns-clause-holds g c =
    let q = c.args.question in
    let rule = q.expect.rule in
    let image = c.args.image.now in
    let inputs = c.args.inputs.now in
    let code = c.args.code.now in
    let habits = habits_of code in
    let turns = c.args.turns.now in
    let choices = c.in_ok-walk.walk.choices.items in
    let start = started image inputs in
    let meant = meant_choices q.refusals (length inputs) in
    let first = turns_start habits start in
    let bad : LeadsToBad meant first (ends_search rule q.always code.section code.words.items inputs) turns
    = subst (λ (ms : List Choice). LeadsToBad ms first (ends_search rule q.always code.section code.words.items inputs) turns)
    c.requires.meant c.requires.bad in
    let failed : run_fails rule q.always code.section image inputs choices ≡ true
    = ap (λ s. run_fails rule q.always s image inputs choices) c.requires.section
    ∙ sym (c.in_ok-has_failed.ensures image c.in_ok-walk.ensures.world) ∙ c.if-not-branch.false in
    subst (λ s. FailsFirst s meant start (run_fails rule q.always s image inputs) choices (length turns)) c.requires.section
    (bad_is_bad rule q.always habits q.refusals image inputs c.requires.entry c.requires.unowned turns choices (length turns)
    bad.meant (bad_good rule q.always code.section code.words.items q.refusals image inputs c.requires.sound turns bad)
    (bad_clear rule q.always code.section code.words.items q.refusals image inputs c.requires.sound turns bad) failed c.in_ok-walk.ensures.choices (λ i. length turns))

pub returns-then-not-branch-clause-told : goal.returns-then-not-branch-clause-told
returns-then-not-branch-clause-told g c = λ none.
    let q = c.args.question in
    let rule = q.expect.rule in
    let image = c.args.image.now in
    let inputs = c.args.inputs.now in
    let code = c.args.code.now in
    let turns = c.args.turns.now in
    let choices = c.in_ok-walk.walk.choices.items in
    let first = turns_start (habits_of code) (started image inputs) in
    let bad : LeadsToBad (meant_choices q.refusals (length inputs)) first (ends_search rule q.always code.section code.words.items inputs) turns
    = subst (λ (ms : List Choice). LeadsToBad ms first (ends_search rule q.always code.section code.words.items inputs) turns)
    c.requires.meant c.requires.bad in
    sym c.if-not-branch.true ∙ c.in_ok-has_failed.ensures image c.in_ok-walk.ensures.world
    ∙ sym (ap (λ s. run_fails rule q.always s image inputs choices) c.requires.section)
    ∙ unowned_fails rule q.always code.section code.words.items q.refusals image inputs c.requires.sound c.requires.entry c.requires.unowned none
    turns choices bad c.in_ok-walk.ensures.choices
