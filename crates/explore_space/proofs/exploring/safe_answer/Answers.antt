use Rattle.std.proofs.Common.{◌≡◌, ℕ, Bool, false, List, length, ap, sym, ◌∙◌, subst}
use Rattle.hart_step.specs.declared.hart.Hart.{Hart}
use Rattle.machine.specs.Start.{started}
use Rattle.machine.specs.declared.choice.Choice.{Choice}
use Rattle.explore_laws.specs.Covering.{AreClear}
use Rattle.explore_laws.specs.Places.{Place}
use Rattle.explore_laws.specs.Safe.{IsSafe}
use Rattle.explore_search.specs.Answers.{AreAllReached}
use Rattle.explore_search.specs.Counted.{HasPlaces, IsLedTo}
use Rattle.explore_sites.specs.Own.{Owners}
use Rattle.std.specs.List.{All}
use Rattle.explore_space.specs.Ends.{AreEndsAt, ends_in}
use Rattle.explore_space.specs.Every.{IsListOf, meant_choices, run_fails}
use Rattle.explore_space.specs.Begun.{choices_from_start, turns_start}
use Rattle.explore_space.specs.Failing.{ends_search}
use Rattle.explore_space.specs.Habits.{clear_by_habit, habits_of, habits_with, owners_in}
use Rattle.explore_space.specs.Places.{IsKey, place_of_key}
use Rattle.explore_space.proofs.EveryEnds.{all_fit, ends_are_all}
use Rattle.explore_space.proofs.EveryLemmas.{safe_clear, safe_good, safe_is_safe}
use Rattle.explore_space.proofs.ExitLemmas.{hanging_exits, held_exits, moved_exit}
use Rattle.explore_space.proofs.OwnBoundLemmas.{all_may_step, keys_clear, moved_bounds, moved_may}
use Rattle.explore_space.proofs.exploring.safe_answer.Goals as goal

pub ends_at_keys-requires-clause-fit : goal.ends_at_keys-requires-clause-fit
ends_at_keys-requires-clause-fit g c =
    let q = c.args.question in
    let image = c.args.image.now in
    let inputs = c.args.inputs.now in
    let code = c.args.code.now in
    let habits = habits_of code in
    let first = turns_start habits (started image inputs) in
    let bad : Place → Bool = ends_search q.expect.rule q.always code.section code.words.items inputs in
    let safe : IsSafe (meant_choices q.refusals (length inputs)) first bad
    = subst (λ (ms : List Choice). IsSafe ms first bad) c.requires.meant c.requires.safe in
    let clear = safe_clear q.expect.rule q.always code.section code.words.items q.refusals image inputs c.requires.sound safe in
    let space = c.args.explorer.now in
    let n = length space.inputs.now in
    let keys = IsKey space.known.image.now n space.known.harts.parts.items space.known.shareds.parts.items in
    let place = place_of_key (habits_of space.known.code.now) space.known.image.now n space.known.harts.parts.items space.known.shareds.parts.items in
    let reached = subst (λ (ms : List Choice). AreAllReached keys place ms first c.args.seen.now.keys)
    c.requires.meant (subst (λ (p : Place). AreAllReached keys place c.args.meant.now p c.args.seen.now.keys) c.requires.first c.requires.reaches) in
    let fit = all_fit q.expect.rule q.always habits q.refusals image inputs c.requires.entry c.requires.unowned clear (habits_of space.known.code.now)
    space.known.image.now space.known.harts.parts.items space.known.shareds.parts.items c.args.seen.now.keys n reached in
    rw c.words.ensures.same (rw c.known_harts-harts.ensures fit)

pub asked_bounds-requires-clause-meant : goal.asked_bounds-requires-clause-meant
asked_bounds-requires-clause-meant g c =
    moved_may c.requires.meant (λ i. length c.args.inputs.now) (all_may_step c.args.question.refusals (length c.args.inputs.now))

pub asked_bounds-requires-clause-clear : goal.asked_bounds-requires-clause-clear
asked_bounds-requires-clause-clear g c =
    let q = c.args.question in
    let image = c.args.image.now in
    let inputs = c.args.inputs.now in
    let code = c.args.code.now in
    let habits = habits_of code in
    let first = turns_start habits (started image inputs) in
    let bad : Place → Bool = ends_search q.expect.rule q.always code.section code.words.items inputs in
    let safe : IsSafe (meant_choices q.refusals (length inputs)) first bad
    = subst (λ (ms : List Choice). IsSafe ms first bad) c.requires.meant c.requires.safe in
    let clear = safe_clear q.expect.rule q.always code.section code.words.items q.refusals image inputs c.requires.sound safe in
    let space = c.args.explorer.now in
    let place = place_of_key (habits_of space.known.code.now) space.known.image.now (length space.inputs.now) space.known.harts.parts.items
    space.known.shareds.parts.items in
    keys_clear habits c.args.meant.now first place c.args.seen.now.keys
    (subst (λ (ms : List Choice). (n : ℕ) → AreClear (clear_by_habit habits) ms first n) (sym c.requires.meant) clear)
    (subst (λ (p : Place). All (λ key. IsLedTo c.args.meant.now p (place key)) c.args.seen.now.keys) c.requires.first c.requires.reaches.led_to)

pub returns-in_ok-bounds-in-None-clause-holds : goal.returns-in_ok-bounds-in-None-clause-holds
returns-in_ok-bounds-in-None-clause-holds g c =
    let q = c.args.question in
    let image = c.args.image.now in
    let inputs = c.args.inputs.now in
    let code = c.args.code.now in
    let habits = habits_of code in
    let first = turns_start habits (started image inputs) in
    let bad : Place → Bool = ends_search q.expect.rule q.always code.section code.words.items inputs in
    let safe : IsSafe (meant_choices q.refusals (length inputs)) first bad
    = subst (λ (ms : List Choice). IsSafe ms first bad) c.requires.meant c.requires.safe in
    let clear = safe_clear q.expect.rule q.always code.section code.words.items q.refusals image inputs c.requires.sound safe in
    let good = safe_good q.expect.rule q.always code.section code.words.items q.refusals image inputs c.requires.sound safe in
    subst (λ s. (choices : List Choice) → IsListOf (meant_choices q.refusals (length inputs)) choices
    → run_fails q.expect.rule q.always s image inputs choices ≡ false) c.requires.section
    (safe_is_safe q.expect.rule q.always habits q.refusals image inputs c.requires.entry c.requires.unowned good clear)

pub returns-in_ok-bounds-in-None-clause-places : goal.returns-in_ok-bounds-in-None-clause-places
returns-in_ok-bounds-in-None-clause-places g c =
    let code = c.args.code.now in
    subst (λ s. (owners : Owners) × HasPlaces (meant_choices c.args.question.refusals (length c.args.inputs.now))
    (turns_start (habits_with s owners) (started c.args.image.now c.args.inputs.now)) c.len-places.result) c.requires.section (
      owners_in code.words.items,
      subst (λ (ms : List Choice). HasPlaces ms (turns_start (habits_of code) (started c.args.image.now c.args.inputs.now)) c.len-places.result) c.requires.meant
          (subst (HasPlaces c.args.meant.now (turns_start (habits_of code) (started c.args.image.now c.args.inputs.now))) (sym c.len-places.ensures) c.requires.counts),
    )

pub returns-in_ok-bounds-in-None-clause-ends : goal.returns-in_ok-bounds-in-None-clause-ends
returns-in_ok-bounds-in-None-clause-ends g c =
    let q = c.args.question in
    let image = c.args.image.now in
    let inputs = c.args.inputs.now in
    let code = c.args.code.now in
    let habits = habits_of code in
    let first = turns_start habits (started image inputs) in
    let bad : Place → Bool = ends_search q.expect.rule q.always code.section code.words.items inputs in
    let safe : IsSafe (meant_choices q.refusals (length inputs)) first bad
    = subst (λ (ms : List Choice). IsSafe ms first bad) c.requires.meant c.requires.safe in
    let clear = safe_clear q.expect.rule q.always code.section code.words.items q.refusals image inputs c.requires.sound safe in
    let good = safe_good q.expect.rule q.always code.section code.words.items q.refusals image inputs c.requires.sound safe in
    let space = c.args.explorer.now in
    let n = length space.inputs.now in
    let keys = IsKey space.known.image.now n space.known.harts.parts.items space.known.shareds.parts.items in
    let place = place_of_key (habits_of space.known.code.now) space.known.image.now n space.known.harts.parts.items space.known.shareds.parts.items in
    let reached = subst (λ (ms : List Choice). AreAllReached keys place ms first c.args.seen.now.keys)
    c.requires.meant (subst (λ (p : Place). AreAllReached keys place c.args.meant.now p c.args.seen.now.keys) c.requires.first c.requires.reaches) in
    ends_are_all q.expect.rule q.always habits q.refusals image inputs c.requires.entry c.requires.unowned clear (habits_of space.known.code.now)
    space.known.image.now space.known.harts.parts.items space.known.shareds.parts.items c.args.seen.now.keys n _ reached good
    (subst (λ (hs : List Hart). AreEndsAt q.expect.rule inputs hs c.args.seen.now.keys (ends_in c.in_ok-ends-in-None.ends))
    c.known_harts-harts.ensures
    (subst (λ (l : List ℕ). AreEndsAt q.expect.rule l c.known_harts-harts.result.now c.args.seen.now.keys (ends_in c.in_ok-ends-in-None.ends))
    c.words.ensures.same c.in_ok-ends-in-None.ensures))

pub returns-in_ok-bounds-in-None-clause-exits : goal.returns-in_ok-bounds-in-None-clause-exits
returns-in_ok-bounds-in-None-clause-exits g c =
    let q = c.args.question in
    let image = c.args.image.now in
    let inputs = c.args.inputs.now in
    let code = c.args.code.now in
    let habits = habits_of code in
    let first = turns_start habits (started image inputs) in
    let bad : Place → Bool = ends_search q.expect.rule q.always code.section code.words.items inputs in
    let safe : IsSafe (meant_choices q.refusals (length inputs)) first bad
    = subst (λ (ms : List Choice). IsSafe ms first bad) c.requires.meant c.requires.safe in
    let clear = safe_clear q.expect.rule q.always code.section code.words.items q.refusals image inputs c.requires.sound safe in
    held_exits habits q.refusals image inputs c.requires.entry clear q.never_both q.expect.exit _ c.in_ok-turns.field-0 c.in-None.is
    (moved_exit q.expect.exit c.in_ok-turns.field-0 c.requires.meant c.requires.first c.in_ok-turns.ensures)

pub returns-in_ok-bounds-in-None-clause-bounds : goal.returns-in_ok-bounds-in-None-clause-bounds
returns-in_ok-bounds-in-None-clause-bounds g c =
    moved_bounds c.args.question.bounds c.in_ok-bounds-in-None.bounds.items c.requires.meant (λ i. started c.args.image.now c.args.inputs.now)
    (λ i. length c.args.inputs.now) c.in_ok-bounds-in-None.ensures

pub returns-in_ok-choices_and_turns-in-Some-clause-holds : goal.returns-in_ok-choices_and_turns-in-Some-clause-holds
returns-in_ok-choices_and_turns-in-Some-clause-holds g c =
    let q = c.args.question in
    let image = c.args.image.now in
    let inputs = c.args.inputs.now in
    let code = c.args.code.now in
    let habits = habits_of code in
    let first = turns_start habits (started image inputs) in
    let bad : Place → Bool = ends_search q.expect.rule q.always code.section code.words.items inputs in
    let safe : IsSafe (meant_choices q.refusals (length inputs)) first bad
    = subst (λ (ms : List Choice). IsSafe ms first bad) c.requires.meant c.requires.safe in
    let clear = safe_clear q.expect.rule q.always code.section code.words.items q.refusals image inputs c.requires.sound safe in
    let good = safe_good q.expect.rule q.always code.section code.words.items q.refusals image inputs c.requires.sound safe in
    subst (λ s. (choices : List Choice) → IsListOf (meant_choices q.refusals (length inputs)) choices
    → run_fails q.expect.rule q.always s image inputs choices ≡ false) c.requires.section
    (safe_is_safe q.expect.rule q.always habits q.refusals image inputs c.requires.entry c.requires.unowned good clear)

pub returns-in_ok-choices_and_turns-in-Some-clause-exits : goal.returns-in_ok-choices_and_turns-in-Some-clause-exits
returns-in_ok-choices_and_turns-in-Some-clause-exits g c =
    let q = c.args.question in
    let image = c.args.image.now in
    let inputs = c.args.inputs.now in
    let code = c.args.code.now in
    let habits = habits_of code in
    let first = turns_start habits (started image inputs) in
    let bad : Place → Bool = ends_search q.expect.rule q.always code.section code.words.items inputs in
    let safe : IsSafe (meant_choices q.refusals (length inputs)) first bad
    = subst (λ (ms : List Choice). IsSafe ms first bad) c.requires.meant c.requires.safe in
    let clear = safe_clear q.expect.rule q.always code.section code.words.items q.refusals image inputs c.requires.sound safe in
    hanging_exits habits q.refusals image inputs c.requires.entry clear q.never_both q.expect.exit _ c.in_ok-turns.field-0 c.in-Some.turns
    c.requires.section c.in-Some.is
    (moved_exit q.expect.exit c.in_ok-turns.field-0 c.requires.meant c.requires.first c.in_ok-turns.ensures)
    (c.in_ok-choices_and_turns-in-Some.ensures.choices ∙ ap (choices_from_start habits (started image inputs)) c.deref.ensures.value)
    (ap length (sym c.deref.ensures.value) ∙ c.in_ok-choices_and_turns-in-Some.ensures.turns)
