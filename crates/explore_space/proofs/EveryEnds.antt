-- The ends at all keys are those of all lists of choices after which no hart runs.
use Rattle.std.proofs.Common.{◌≡◌, ℕ, ◌%◌, true, false, List, [], ◌++◌, length, take, Option, Some, ap, sym, ◌∙◌, subst, arith}
use Rattle.std.proofs.lemmas.List.{length-map, length-take-le}
use Rattle.std.proofs.lemmas.List.Elements.{All-nil, All-contains}
use Rattle.std.proofs.lemmas.Option.{slice_get_within, get_or_from_slice_get}
use Rattle.std.specs.List.{All, Contains, slice_get}
use Rattle.image.specs.Image.{ImageValue}
use Rattle.hart_step.specs.Hart.{HartValue}
use Rattle.hart_step.specs.declared.hart.Hart.{Hart}
use Rattle.machine.proofs.RunLaws.{length-started}
use Rattle.machine.specs.Start.{started}
use Rattle.machine.specs.World.{World, run}
use Rattle.machine.specs.declared.choice.Choice.{Choice}
use Rattle.object_library.specs.declared.kind.Kind.{Kind}
use Rattle.outcome.specs.Expect.{fails, judged}
use Rattle.outcome.specs.Outcome.{some_run}
use Rattle.outcome.specs.declared.expect.Exit.TheVariants.{May}
use Rattle.explore_laws.specs.Covering.{AreClear, HasTurns}
use Rattle.explore_laws.specs.Places.{Place, place_reached}
use Rattle.explore_laws.specs.Safe.{IsSafe}
use Rattle.explore_search.specs.Answers.{AreAllReached}
use Rattle.explore_search.specs.Counted.{IsLedTo}
use Rattle.explore_space.specs.Begun.{begun_choices, turns_start}
use Rattle.explore_space.specs.Ends.{EndValue, end_with, AreEndsAt, FitsHarts}
use Rattle.explore_space.specs.Every.{meant_choices, IsListOf, StopsAll, run_end, AreAllEnds}
use Rattle.explore_space.specs.Failing.{IsUnowned, breaks_asked, fails_there, one_each}
use Rattle.explore_space.specs.Places.{hart_worded, place_of_key, IsKey}
use Rattle.explore_space.specs.declared.meant.ScRefusals.{ScRefusals}
use Rattle.explore_space.specs.declared.question.Always.{Always}
use Rattle.explore_space.specs.declared.shared.Shared.{Shared}
use Rattle.explore_space.proofs.BegunLemmas.{begun_count, run_of_begun}
use Rattle.explore_space.proofs.EveryLemmas.{good_run, safe_is_safe, start_aligned, start_meant}
use Rattle.explore_space.proofs.StartLemmas.{run_has_start}
use Rattle.explore_space.proofs.StopLemmas.{same_harts, same_outcomes}
use Rattle.explore_space.proofs.WordBreaks.{fails_not}
use Rattle.explore_laws.proofs.ListLemmas.{run_joined}
use Rattle.explore_laws.proofs.TurnLemmas.{run_of_turns}
use Rattle.explore_laws.specs.Settling.{turns_choices}
use Rattle.explore_space.specs.Habits.{Habits, clear_by_habit, quiet_by_habit, stride_by_habit}

contains_at : {X : Type 0} (xs : List X) (k : ℕ) (x : X) → slice_get xs k ≡ Some x → Contains xs x
contains_at xs k x e = (k, slice_get_within xs k x e, get_or_from_slice_get xs k x x e)

-- the end at a place
abbrev end_there : Option Kind → List ℕ → Place → EndValue
end_there rule inputs p = end_with (judged rule inputs (one_each (length inputs) p.chosen) p.world.harts) p.world.harts

module _ (rule : Option Kind) (always : Option Always) (habits : Habits) (refusals : ScRefusals) (image : ImageValue) (inputs : List ℕ)
    (entry : image.entry % 4 ≡ 0) (unowned : IsUnowned always habits.owners)
    (clear : (n : ℕ) → AreClear (clear_by_habit habits) (meant_choices refusals (length inputs)) (turns_start habits (started image inputs)) n) where
  abbrev meant : List Choice
  meant = meant_choices refusals (length inputs)

  abbrev start : World
  start = started image inputs

  abbrev first : Place
  first = turns_start habits start

  abbrev reached : List Choice → Place
  reached turns = place_reached first turns

  -- where no hart runs after a list, the place that stands for its run has the same end
  same_place : (choices : List Choice) (found : HasTurns (quiet_by_habit habits) meant first start choices) → StopsAll image inputs choices
      → (reached found.turns).world.harts ≡ (run start choices).harts
  same_place choices found stops = same_harts habits (reached found.turns).world (run start choices) found.place.covers stops

  same_end : (choices : List Choice) (found : HasTurns (quiet_by_habit habits) meant first start choices)
      → IsSafe meant first (fails_there rule always habits.section inputs)
      → StopsAll image inputs choices → end_there rule inputs (reached found.turns) ≡ run_end rule image inputs choices
  same_end choices found safe stops =
      let p = reached found.turns in
      let each = one_each (length inputs) p.chosen in
      let hs = (run start choices).harts in
      let same = same_place choices found stops in
      let good = safe found.turns found.are_meant in
      let both = fails_not (breaks_asked always habits.section p.world) (fails May (judged rule inputs each p.world.harts)) good in
      let run_good = good_run rule always habits refusals image inputs entry unowned choices found good in
      let outcome : judged rule inputs each p.world.harts ≡ judged rule inputs choices hs
      = ap (judged rule inputs each) same ∙ same_outcomes rule inputs each choices hs
      (subst (λ (xs : List HartValue). fails May (judged rule inputs each xs) ≡ false) same both.1)
      (fails_not (breaks_asked always habits.section (run start choices)) (fails May (judged rule inputs choices hs)) run_good).1 in
      ap (λ o. end_with o p.world.harts) outcome ∙ ap (end_with (judged rule inputs choices hs)) same

  -- the first local steps of all harts, and turns
  abbrev list_of : List Choice → List Choice
  list_of turns = begun_choices habits.section start (λ k. true) (length start.harts) ++ turns_choices (stride_by_habit habits) first.world turns

  leads_there : (turns : List Choice) → run start (list_of turns) ≡ (reached turns).world
  leads_there turns =
      run_joined start (begun_choices habits.section start (λ k. true) (length start.harts)) (turns_choices (stride_by_habit habits) first.world turns)
      ∙ ap (λ (x : World). run x (turns_choices (stride_by_habit habits) first.world turns)) (run_of_begun habits.section start (λ k. true) (length start.harts))
      ∙ run_of_turns (stride_by_habit habits) first.world turns

  -- the run of these choices ends as the place does
  turns_end : (turns : List Choice) → IsListOf meant turns → IsSafe meant first (fails_there rule always habits.section inputs)
      → end_there rule inputs (reached turns) ≡ run_end rule image inputs (list_of turns)
  turns_end turns all safe =
      let p = reached turns in
      let list = list_of turns in
      let good = safe_is_safe rule always habits refusals image inputs entry unowned safe clear list (start_meant habits refusals image inputs entry (λ k. true) turns all) in
      let each = one_each (length inputs) p.chosen in
      let there = fails_not (breaks_asked always habits.section p.world) (fails May (judged rule inputs each p.world.harts)) (safe turns all) in
      let here = fails_not (breaks_asked always habits.section (run start list)) (fails May (judged rule inputs list (run start list).harts)) good in
      ap (λ o. end_with o p.world.harts) (same_outcomes rule inputs each list p.world.harts there.1
      (subst (λ (x : World). fails May (judged rule inputs list x.harts) ≡ false) (leads_there turns) here.1))
      ∙ ap (λ (x : World). end_with (judged rule inputs list x.harts) x.harts) (sym (leads_there turns))

  -- keys of a search, over parts that are known
  module _ {Z : Type 0} (kept : Habits) (other : ImageValue) (harts : List Hart) (shareds : List (Shared Z)) (keys : List (List ℕ)) where
    abbrev Reached : ℕ → Type 0
    Reached n = AreAllReached (IsKey other n harts shareds) (place_of_key kept other n harts shareds) meant first keys

    -- they have as many harts as there are inputs
    pub count_is : (n : ℕ) → Reached n → n ≡ length inputs
    unfolding place_reached
    count_is n r =
        let seen = r.all [] (All-nil (Contains meant)) in
        let is_key = All-contains (IsKey other n harts shareds) keys seen.key r.are (contains_at keys seen.number seen.key seen.there) in
        let len = is_key.len in
        let taken = length-take-le n seen.key (omega (arith, len)) in
        let mapped = length-map (take n seen.key) (hart_worded harts) in
        sym (mapped ∙ taken) ∙ ap (λ (p : Place). length p.world.harts) seen.is
        ∙ begun_count habits.section start (λ k. true) (length start.harts) ∙ length-started image inputs

    keys_fit : Reached (length inputs) → All (FitsHarts (length inputs) (length harts)) keys
    keys_fit r k d low = let is = r.are k d low in (is.len, is.harts)

    pub all_fit : (n : ℕ) → Reached n → All (FitsHarts (length inputs) (length harts)) keys
    all_fit n r = keys_fit (subst Reached (count_is n r) r)

    ends_all : (ends : List EndValue) → Reached (length inputs) → IsSafe meant first (fails_there rule always habits.section inputs)
        → AreEndsAt rule inputs harts keys ends → AreAllEnds rule refusals image inputs ends
    ends_all ends r safe at = record {
      all = λ choices all stops.
          let found = run_has_start habits meant start choices (start_aligned image inputs entry) all (clear (length choices)) in
          let seen = r.all found.turns found.are_meant in
          let stopped = ap (λ (p : Place). some_run p.world.harts) seen.is
          ∙ ap (λ (xs : List HartValue). some_run xs) (same_place choices found stops) ∙ stops in
          subst (Contains ends) (ap (end_there rule inputs) seen.is ∙ same_end choices found safe stops)
          (at.all seen.key (contains_at keys seen.number seen.key seen.there) stopped);
      each = λ end there.
          let is = at.each end there in
          let led = All-contains (λ key. IsLedTo meant first (place_of_key kept other (length inputs) harts shareds key)) keys is.key
          r.led_to is.there in
          record {
            choices = list_of led.list;
            meant_ones = start_meant habits refusals image inputs entry (λ k. true) led.list led.meant;
            stops = ap (λ (x : World). some_run x.harts) (leads_there led.list)
                ∙ ap (λ (p : Place). some_run p.world.harts) led.leads ∙ is.stopped;
            is = sym (turns_end led.list led.meant safe) ∙ ap (end_there rule inputs) led.leads ∙ is.is;
          };
      once = at.once;
    }

    pub ends_are_all : (n : ℕ) (ends : List EndValue) → Reached n → IsSafe meant first (fails_there rule always habits.section inputs)
        → AreEndsAt rule inputs harts keys ends → AreAllEnds rule refusals image inputs ends
    ends_are_all n ends r safe at = ends_all ends (subst Reached (count_is n r) r) safe at
