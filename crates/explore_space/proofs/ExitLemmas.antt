-- Ways out of places and of worlds.
use Rattle.std.proofs.Common.{◌≡◌, ℕ, ◌%◌, Bool, true, false, not, List, ◌++◌, length, Option, Some, None, refl, ap, sym, ◌∙◌, subst, arith}
use Rattle.std.proofs.lemmas.List.Elements.{All-append}
use Rattle.std.specs.List.{Contains}
use Rattle.std.specs.Prelude.{Vec}
use Rattle.image.specs.Image.{ImageValue}
use Rattle.hart_step.specs.Hart.{HartValue}
use Rattle.machine.specs.Start.{started}
use Rattle.machine.specs.World.{World, run}
use Rattle.machine.specs.declared.choice.Choice.{Choice}
use Rattle.machine.proofs.RunLaws.{run_length, length-started}
use Rattle.outcome.specs.Outcome.{some_run}
use Rattle.outcome.specs.declared.expect.Exit.{Exit}
use Rattle.outcome.specs.declared.expect.Exit.TheVariants.{May, Must}
use Rattle.explore_laws.proofs.PlaceLemmas.{stride_reached}
use Rattle.explore_laws.proofs.WayLemmas.{walks_there}
use Rattle.explore_laws.specs.Covering.{AreClear, WorldCovers}
use Rattle.explore_laws.specs.Places.{Place, place_reached}
use Rattle.explore_laws.specs.WaysOut.{HasWayOut, HaveWaysOut}
use Rattle.explore_search.specs.Edges.{HaveEdges, SearchLeads}
use Rattle.explore_search.specs.Marked.{LeadsToStuck}
use Rattle.explore_search.specs.declared.edges.Edges.{Edges}
use Rattle.explore_search.specs.declared.edges.Edges.TheVariants.{Kept}
use Rattle.explore_search.specs.declared.searching.Found.{Found}
use Rattle.explore_search.specs.declared.searching.Found.TheVariants.{Safe}
use Rattle.explore_search.specs.declared.seen.Seen.{Seen}
use Rattle.explore_space.specs.Begun.{choices_from_start, turns_start}
use Rattle.explore_space.specs.Every.{meant_choices, IsListOf, HasExit, HangsFirst, TellsExits}
use Rattle.explore_space.specs.Failing.{ends_there}
use Rattle.explore_space.specs.Stuck.{AnswersExit, edges_for}
use Rattle.explore_space.specs.declared.exploring.Answer.TheVariants.{Holds, Hangs}
use Rattle.explore_space.specs.declared.exploring.Failing.{Failing}
use Rattle.explore_space.specs.declared.exploring.Held.{Held}
use Rattle.explore_space.specs.declared.meant.ScRefusals.{ScRefusals}
use Rattle.explore_space.specs.declared.own_bounds.OwnBounds.{OwnBounds}
use Rattle.explore_space.specs.declared.section.Section.{Section}
use Rattle.explore_space.specs.declared.own_bounds.OwnBounds.TheVariants.{Asked, NotAsked}
use Rattle.machine.specs.Chosen.{is_chosen}
use Rattle.explore_space.proofs.AheadLemmas.{ahead_covers, all_run, clear_from, clear_turns, start_ahead}
use Rattle.explore_space.proofs.BegunLemmas.{begun_count}
use Rattle.explore_space.proofs.EveryLemmas.{plain_meant, start_aligned, start_meant, turns_meant}
use Rattle.explore_space.proofs.StartLemmas.{covered_follow, run_has_start}
use Rattle.explore_space.proofs.PassLemmas.{covers_count}
use Rattle.explore_space.proofs.HabitLemmas.{habits_wait}
use Rattle.explore_space.proofs.StopLemmas.{same_harts}
use Rattle.explore_laws.specs.Quiet.{AreAligned}
use Rattle.explore_laws.proofs.QuietLemmas.{aligned_run}
use Rattle.explore_laws.proofs.ListLemmas.{run_joined}
use Rattle.explore_laws.proofs.TurnLemmas.{run_of_turns, turns_from}
use Rattle.explore_laws.specs.Settling.{turns_choices}
use Rattle.explore_space.specs.Habits.{Habits, clear_by_habit, quiet_by_habit, stride_by_habit}

stopped : (b : Bool) → not b ≡ true → b ≡ false
stopped false e = refl
stopped true e = absurd (let no : false ≡ true = e in cc)

module _ (habits : Habits) (refusals : ScRefusals) (image : ImageValue) (inputs : List ℕ) (entry : image.entry % 4 ≡ 0)
    (clear : (n : ℕ) → AreClear (clear_by_habit habits) (meant_choices refusals (length inputs)) (turns_start habits (started image inputs)) n) where
  abbrev meant : List Choice
  meant = meant_choices refusals (length inputs)

  abbrev start : World
  start = started image inputs

  abbrev first : Place
  first = turns_start habits start

  abbrev reached : List Choice → Place
  reached turns = place_reached first turns

  -- turns lead out of a place where their choices lead out of its world
  place_exit : (p : Place) → HasWayOut meant ends_there p → HasExit meant p.world
  place_exit p way = record {
    choices = turns_choices p.stride p.world way.turns;
    meant_ones = turns_meant refusals (length inputs) p.stride p.world way.turns way.are_meant;
    stops = ap (λ (x : World). some_run x.harts) (turns_from p way.turns)
        ∙ stopped (some_run (place_reached p way.turns).world.harts) way.ends;
  }

  -- and a world out of which choices lead is covered by no place without a way out
  exit_place : (p : Place) (w : World) → p.stride ≡ stride_by_habit habits → ((n : ℕ) → AreClear (clear_by_habit habits) meant p n) → AreAligned w
      → WorldCovers (quiet_by_habit habits) p.world w → HasExit meant w → HasWayOut meant ends_there p
  exit_place p w is clear_there aligned covers exit =
      let found = covered_follow habits meant p w exit.choices is aligned covers exit.meant_ones (clear_there (length exit.choices)) in
      let harts = same_harts habits (place_reached p found.0).world (run w exit.choices) found.2 exit.stops in
      record {
        turns = found.0;
        are_meant = found.1;
        ends = ap (λ (hs : List HartValue). not (some_run hs)) harts ∙ ap not exit.stops;
      }

  -- quiet steps lead to a world that covers another, and so out of that one
  covered_exit : (s w : World) → length w.harts ≡ length inputs → WorldCovers (quiet_by_habit habits) s w → HasExit meant s → HasExit meant w
  covered_exit s w count covers exit =
      let there = walks_there (quiet_by_habit habits) (clear_by_habit habits) (stride_by_habit habits) (habits_wait habits) meant (length inputs)
      (λ h low. plain_meant refusals (length inputs) h low) s w count covers in
      record {
        choices = there.0 ++ exit.choices;
        meant_ones = All-append (Contains meant) there.0 exit.choices there.1 exit.meant_ones;
        stops = ap (λ (x : World). some_run x.harts)
            (run_joined w there.0 exit.choices ∙ ap (λ (x : World). run x exit.choices) there.2) ∙ exit.stops;
      }

  count_of : (turns : List Choice) → length (reached turns).world.harts ≡ length inputs
  count_of turns =
      ap (λ (x : World). length x.harts) (sym (run_of_turns (stride_by_habit habits) first.world turns))
      ∙ run_length first.world (turns_choices (stride_by_habit habits) first.world turns) ∙ begun_count habits.section start (λ k. true) (length start.harts) ∙ length-started image inputs

  -- what leads out of a place leads out of each world that it covers
  run_exit : (turns : List Choice) (w : World) → WorldCovers (quiet_by_habit habits) (reached turns).world w → HasWayOut meant ends_there (reached turns)
      → HasExit meant w
  run_exit turns w covers way =
      covered_exit (reached turns).world w (sym (covers_count habits (reached turns).world w covers) ∙ count_of turns) covers
      (place_exit (reached turns) way)

  exits_all : HaveWaysOut meant first ends_there → (choices : List Choice) → IsListOf meant choices
      → HasExit meant (run start choices)
  exits_all ways choices all =
      let found = run_has_start habits meant start choices (start_aligned image inputs entry) all (clear (length choices)) in
      run_exit found.turns (run start choices) found.place.covers (ways found.turns found.are_meant)

  covers_list : (turns : List Choice) → IsListOf meant turns
      → WorldCovers (quiet_by_habit habits) (reached turns).world (run start (choices_from_start habits start turns))
  covers_list turns all =
      ahead_covers habits (is_chosen turns) (reached turns).world (run start (choices_from_start habits start turns))
      (start_ahead habits start turns (start_aligned image inputs entry) (all_run image inputs)
      (clear_turns habits meant first turns (length turns) all (omega arith) (clear (length turns))))

  hangs_first : (turns choices : List Choice) (count : ℕ) → LeadsToStuck meant first ends_there turns
      → choices ≡ choices_from_start habits start turns → length turns ≡ count → HangsFirst habits.section meant start choices count
  hangs_first turns choices count leads is count_is = record {
    owners = habits.owners;
    turns = turns;
    meant_turns = leads.meant;
    count_is = count_is;
    choices_are = is;
    meant_ones = subst (IsListOf meant) (sym is) (start_meant habits refusals image inputs entry (is_chosen turns) turns leads.meant);
    hangs = λ exit. leads.stuck (exit_place (reached turns) (run start choices) (stride_reached first turns)
        (clear_from habits meant first turns leads.meant clear) (aligned_run start choices (start_aligned image inputs entry))
        (subst (λ (cs : List Choice). WorldCovers (quiet_by_habit habits) (reached turns).world (run start cs)) (sym is) (covers_list turns leads.meant)) exit);
    fewest = λ other all less.
        run_exit other (run start (choices_from_start habits start other)) (covers_list other all)
        (leads.nearest other all (omega (arith, less, count_is)));
    shortest = λ other all less.
        let found = run_has_start habits meant start other (start_aligned image inputs entry) all (clear (length other)) in
        run_exit found.turns (run start other) found.place.covers (leads.nearest found.turns found.are_meant
        (let few = found.no_more in omega (arith, few, less, count_is)));
  }

  -- ---- an answer for places is one for runs
  pub held_exits : {Z : Type 0} (section : Option Section) (exit : Exit) (held : Held Z) (found : Option (Vec Choice Z)) → found ≡ None
      → AnswersExit exit meant first found → TellsExits section exit refusals image inputs (Holds held)
  held_exits section May held found none answers = tt
  held_exits section Must held found none answers = exits_all (subst (AnswersExit Must meant first) none answers)

  pub hanging_exits : {Z : Type 0} (section : Option Section) (exit : Exit) (hanging : Failing Z) (found : Option (Vec Choice Z)) (turns : Vec Choice Z)
      → habits.section ≡ section → found ≡ Some turns → AnswersExit exit meant first found
      → hanging.choices.items ≡ choices_from_start habits start turns.items → length turns.items ≡ hanging.turns
      → TellsExits section exit refusals image inputs (Hangs hanging)
  hanging_exits section May hanging found turns same is none choices count = absurd (cc)
  hanging_exits section Must hanging found turns same is answers choices count =
      subst (λ s. HangsFirst s meant start hanging.choices.items hanging.turns) same
      (hangs_first turns.items hanging.choices.items hanging.turns (subst (AnswersExit Must meant first) is answers) choices count)

-- the same by equal parts
pub moved_exit : {Z : Type 0} (exit : Exit) {ms ns : List Choice} {p q : Place} (found : Option (Vec Choice Z)) → ms ≡ ns → p ≡ q
    → AnswersExit exit ms p found → AnswersExit exit ns q found
moved_exit {Z} exit {ms} {ns} {p} {q} found m e a =
    subst (λ x. AnswersExit exit ns x found) e (subst (λ xs. AnswersExit exit xs p found) m a)

-- ---- the edges of a search
kept_leads : {Z : Type 0} (place : List ℕ → Place) {edges : Edges} {found : Found Z} {seen : Seen Z} {choices meant : List Choice}
    → edges ≡ Kept → found ≡ Safe seen → choices ≡ meant → SearchLeads edges place choices found
    → HaveEdges place meant seen.keys seen.rows
kept_leads {Z} place {edges} {found} {seen} {choices} {meant} kept is same leads =
    subst (λ ms. HaveEdges place ms seen.keys seen.rows) same
    (subst (λ f. SearchLeads Kept place choices f) is (subst (λ e. SearchLeads e place choices found) kept leads))

-- they are kept where ways out are asked for
pub leads_where : {Z : Type 0} (place : List ℕ → Place) (exit : Exit) (bounds : OwnBounds) {edges : Edges} {found : Found Z} {seen : Seen Z}
    {choices meant : List Choice} → edges ≡ edges_for exit bounds → found ≡ Safe seen → choices ≡ meant
    → SearchLeads edges place choices found → exit ≡ Must → HaveEdges place meant seen.keys seen.rows
leads_where place May bounds edges_are is same leads must = absurd (let no : May ≡ Must = must in cc)
leads_where place Must bounds edges_are is same leads must = kept_leads place edges_are is same leads

-- and where bounds are
pub leads_asked : {Z : Type 0} (place : List ℕ → Place) (exit : Exit) (bounds : OwnBounds) {edges : Edges} {found : Found Z} {seen : Seen Z}
    {choices meant : List Choice} → edges ≡ edges_for exit bounds → found ≡ Safe seen → choices ≡ meant
    → SearchLeads edges place choices found → bounds ≡ Asked → HaveEdges place meant seen.keys seen.rows
leads_asked place exit NotAsked edges_are is same leads asked = absurd (let no : NotAsked ≡ Asked = asked in cc)
leads_asked place May Asked edges_are is same leads asked = kept_leads place edges_are is same leads
leads_asked place Must Asked edges_are is same leads asked = kept_leads place edges_are is same leads
