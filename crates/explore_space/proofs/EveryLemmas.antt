-- From places to runs.
use Rattle.std.proofs.Common.{◌≡◌, ℕ, zero, suc, ◌%◌, ◌<◌, ◌≤◌, Bool, true, false, ◌||◌, List, [], ◌∷◌, ◌++◌, length, Option, Some, None, refl, ap, sym, ◌∙◌, subst, arith, inl, inr, true≢false}
use Rattle.std.proofs.lemmas.Bool.{cases_lt, ne_eqb}
use Rattle.std.proofs.lemmas.List.Elements.{All-head, All-tail, All-append, All-cons, Contains-append_cases, Contains-append_left, Contains-append_right}
use Rattle.std.specs.List.{Contains, slice_index_or}
use Rattle.image.specs.Image.{ImageValue, IsSound}
use Rattle.hart_step.specs.Hart.{HartValue}
use Rattle.hart_local.specs.LocalRuns.{plain_choices}
use Rattle.machine.specs.Chosen.{is_chosen, ChooseAlike}
use Rattle.machine.specs.Start.{started}
use Rattle.machine.proofs.RunLaws.{length-started, run-aligned}
use Rattle.explore_laws.specs.Covering.{AreClear, HasTurns}
use Rattle.explore_laws.specs.Quiet.{AreAligned}
use Rattle.explore_laws.proofs.ListLemmas.{run_nothing}
use Rattle.machine.specs.World.{World, step, run}
use Rattle.machine.specs.declared.choice.Choice.{Choice}
use Rattle.object_library.proofs.ChosenLemmas.{same_verdict}
use Rattle.object_library.specs.declared.kind.Kind.{Kind}
use Rattle.outcome.specs.Outcome.{outcome_of}
use Rattle.outcome.specs.Expect.{fails, judged}
use Rattle.outcome.specs.declared.expect.Exit.TheVariants.{May}
use Rattle.explore_laws.proofs.PlaceLemmas.{chosen_reached}
use Rattle.explore_laws.specs.Places.{Place, place_begun, place_reached}
use Rattle.explore_laws.specs.Safe.{IsSafe}
use Rattle.explore_search.proofs.SearchLemmas.{below_or}
use Rattle.explore_search.specs.Answers.{LeadsToBad}
use Rattle.explore_search.specs.declared.searching.Found.{Found}
use Rattle.explore_space.specs.Begun.{begun_choices, choices_from_start, settled_start, turns_start, world_begun}
use Rattle.explore_space.specs.Every.{hart_choices, meant_choices, IsListOf, run_fails, FailsFirst}
use Rattle.explore_space.specs.Failing.{IsUnowned, breaks_asked, ends_search, fails_there, one_each, strays_from}
use Rattle.explore_space.specs.declared.meant.ScRefusals.{ScRefusals}
use Rattle.explore_space.specs.declared.meant.ScRefusals.TheVariants.{Also, Never}
use Rattle.explore_space.specs.declared.question.Always.{Always}
use Rattle.explore_space.proofs.MarkLemmas.{chosen_below, chosen_past}
use Rattle.explore_space.proofs.PassLemmas.{covered_stops, passes}
use Rattle.explore_space.proofs.WordBreaks.{ahead_breaks, covered_breaks, fails_neither, fails_not}
use Rattle.explore_space.proofs.BegunLemmas.{run_of_begun, start_chosen}
use Rattle.explore_space.proofs.ClearLemmas.{ShutAbove, run_shut, started_shut}
use Rattle.explore_laws.proofs.TurnLemmas.{run_of_turns}
use Rattle.explore_space.proofs.AheadLemmas.{ClearTurns, all_run, clear_turns, fails_ahead, start_ahead}
use Rattle.explore_space.proofs.AstrayLemmas.{clear_below, neither}
use Rattle.explore_space.proofs.StartLemmas.{begun_meant, run_has_start}
use Rattle.explore_space.specs.declared.section.Section.{Section}
use Rattle.explore_space.specs.declared.settling.LocalCode.{LocalCode}
use Rattle.explore_laws.specs.Settling.{Stride, turns_choices, world_settled}
use Rattle.explore_space.specs.Habits.{Habits, clear_by_habit, habits_with, owners_in, quiet_by_habit, stride_by_habit}
use Rattle.explore_space.specs.declared.own_words.OwnWord.{OwnWord}

-- ---- the harts of meant choices
of_hart : (refusals : ScRefusals) (n i : ℕ) (c : Choice) → i < length (hart_choices refusals n)
    → slice_index_or (hart_choices refusals n) i c ≡ c → c.hart ≡ n
of_hart Also n zero c low is = ap (λ (x : Choice). x.hart) (sym is)
of_hart Also n (suc zero) c low is = ap (λ (x : Choice). x.hart) (sym is)
of_hart Also n (suc (suc i)) c low is = absurd (omega (arith, low))
of_hart Never n zero c low is = ap (λ (x : Choice). x.hart) (sym is)
of_hart Never n (suc i) c low is = absurd (omega (arith, low))

pub in_range : (refusals : ScRefusals) (n : ℕ) (c : Choice) → Contains (meant_choices refusals n) c → c.hart < n
unfolding meant_choices
in_range refusals zero c there = absurd (let low = there.1 in omega (arith, low))
in_range refusals (suc n) c there = elim (Contains-append_cases (meant_choices refusals n) (hart_choices refusals n) c there) [
  | inl before ↦ (let low = in_range refusals n c before in omega (arith, low))
  | inr here ↦ (let is = of_hart refusals n here.0 c here.1 here.2 in omega (arith, is))
]

plain_first : (refusals : ScRefusals) (n : ℕ) → Contains (hart_choices refusals n) (record { hart = n; refuse = false })
plain_first Also n = (0, omega arith, refl)
plain_first Never n = (0, omega arith, refl)

pub plain_meant : (refusals : ScRefusals) (n h : ℕ) → h < n → Contains (meant_choices refusals n) (record { hart = h; refuse = false })
unfolding meant_choices
plain_meant refusals zero h low = absurd (omega (arith, low))
plain_meant refusals (suc n) h low = elim (below_or h n (omega (arith, low))) [
  | inl before ↦ Contains-append_left (meant_choices refusals n) (hart_choices refusals n) (record { hart = h; refuse = false })
      (plain_meant refusals n h before)
  | inr here ↦ Contains-append_right (meant_choices refusals n) (hart_choices refusals n) (record { hart = h; refuse = false })
      (subst (λ i. Contains (hart_choices refusals n) (record { hart = i; refuse = false })) (sym here) (plain_first refusals n))
]

none_past : (refusals : ScRefusals) (n : ℕ) (choices : List Choice) (k : ℕ) → n ≤ k → IsListOf (meant_choices refusals n) choices
    → is_chosen choices k ≡ false
none_past refusals n [] k past all = refl
none_past refusals n (c ∷ choices) k past all =
    let low = in_range refusals n c (All-head (Contains (meant_choices refusals n)) c choices all) in
    rw (ne_eqb c.hart k (λ e. omega (arith, low, past, e)))
    (none_past refusals n choices k past (All-tail (Contains (meant_choices refusals n)) c choices all))

-- ---- the choices of meant turns are meant
module _ (refusals : ScRefusals) (n : ℕ) where
  plain_ones : (h count : ℕ) (rest : List Choice) → h < n → IsListOf (meant_choices refusals n) rest
      → IsListOf (meant_choices refusals n) (plain_choices h count ++ rest)
  plain_ones h zero rest low all = all
  plain_ones h (suc count) rest low all = All-cons (Contains (meant_choices refusals n)) (record { hart = h; refuse = false })
      (plain_choices h count ++ rest) (plain_meant refusals n h low) (plain_ones h count rest low all)

  pub turns_meant : (stride : Stride) (w : World) (turns : List Choice) → IsListOf (meant_choices refusals n) turns
      → IsListOf (meant_choices refusals n) (turns_choices stride w turns)
  unfolding turns_choices
  turns_meant stride w [] all = all
  turns_meant stride w (c ∷ turns) all =
      let head = All-head (Contains (meant_choices refusals n)) c turns all in
      let tail = All-tail (Contains (meant_choices refusals n)) c turns all in
      let count = stride (step w c) c.hart in
      All-cons (Contains (meant_choices refusals n)) c (plain_choices c.hart count ++ turns_choices stride (world_settled stride (step w c) c.hart) turns) head
      (plain_ones c.hart count (turns_choices stride (world_settled stride (step w c) c.hart) turns) (in_range refusals n c head)
      (turns_meant stride (world_settled stride (step w c) c.hart) turns tail))

-- ---- verdicts
-- a choice of each hart that turns choose, and the turns
pub alike : (stride : Stride) (refusals : ScRefusals) (n : ℕ) (w : World) (turns : List Choice) → IsListOf (meant_choices refusals n) turns
    → ChooseAlike (one_each n (place_reached (place_begun stride w) turns).chosen) turns
alike stride refusals n w turns all k = elim (cases_lt k n) [
  | inl low ↦ chosen_below n (place_reached (place_begun stride w) turns).chosen k low ∙ chosen_reached stride w turns k
  | inr past ↦ chosen_past n (place_reached (place_begun stride w) turns).chosen k past ∙ sym (none_past refusals n turns k past all)
]

pub same_judgement : (rule : Option Kind) (inputs : List ℕ) (a b : List Choice) (harts : List HartValue) → ChooseAlike a b
    → judged rule inputs a harts ≡ judged rule inputs b harts
same_judgement None inputs a b harts same = refl
same_judgement (Some kind) inputs a b harts same = ap (λ v. outcome_of (Some v) harts) (same_verdict kind inputs a b harts same)

-- a program starts with its harts at its entry
pub start_aligned : (image : ImageValue) (inputs : List ℕ) → image.entry % 4 ≡ 0 → AreAligned (started image inputs)
start_aligned image inputs entry =
    subst AreAligned (run_nothing (started image inputs)) (run-aligned image inputs [] entry)

-- ---- the choices of turns from the start are meant
module _ (habits : Habits) (refusals : ScRefusals) (image : ImageValue) (inputs : List ℕ) (entry : image.entry % 4 ≡ 0) where
  plains : (h : ℕ) → h < length (started image inputs).harts → Contains (meant_choices refusals (length inputs)) (record { hart = h; refuse = false })
  plains h low = plain_meant refusals (length inputs) h (let c = length-started image inputs in omega (arith, c, low))

  pub start_meant : (asked : ℕ → Bool) (turns : List Choice) → IsListOf (meant_choices refusals (length inputs)) turns
      → IsListOf (meant_choices refusals (length inputs)) (begun_choices habits.section (started image inputs) asked (length (started image inputs).harts)
      ++ turns_choices (stride_by_habit habits) (world_begun habits.section (started image inputs) asked (length (started image inputs).harts)) turns)
  start_meant asked turns all =
      let n = length (started image inputs).harts in
      let at = world_begun habits.section (started image inputs) asked n in
      All-append (Contains (meant_choices refusals (length inputs))) (begun_choices habits.section (started image inputs) asked n) (turns_choices (stride_by_habit habits) at turns)
      (begun_meant habits (meant_choices refusals (length inputs)) (started image inputs) (start_aligned image inputs entry) plains asked n (omega arith))
      (turns_meant refusals (length inputs) (stride_by_habit habits) at turns all)

module _ (rule : Option Kind) (always : Option Always) (habits : Habits) (refusals : ScRefusals) (image : ImageValue) (inputs : List ℕ)
    (entry : image.entry % 4 ≡ 0) (unowned : IsUnowned always habits.owners) where
  abbrev meant : List Choice
  meant = meant_choices refusals (length inputs)

  abbrev start : World
  start = started image inputs

  abbrev reached : List Choice → Place
  reached turns = place_reached (turns_start habits start) turns

  aligned_after : (choices : List Choice) → AreAligned (run start choices)
  aligned_after choices = run-aligned image inputs choices entry

  -- where turns lead, their own run has failed exactly where the place has
  fails_alike : (turns : List Choice) → IsListOf meant turns → ClearTurns habits (turns_start habits start) turns
      → fails_there rule always habits.section inputs (reached turns)
      ≡ run_fails rule always habits.section image inputs (choices_from_start habits start turns)
  fails_alike turns all clear =
      let p = reached turns in
      let list = choices_from_start habits start turns in
      let each = one_each (length inputs) p.chosen in
      let ahead = start_ahead habits start turns (start_aligned image inputs entry) (all_run image inputs) clear in
      ap (λ (b : Bool). b || fails May (judged rule inputs each p.world.harts))
      (ahead_breaks habits always unowned (is_chosen turns) p.world (run start list) (aligned_after list) ahead)
      ∙ ap (λ (b : Bool). breaks_asked always habits.section (run start list) || b)
      (fails_ahead habits rule inputs (is_chosen turns) p.world (run start list) each list ahead
      (λ k. alike (stride_by_habit habits) refusals (length inputs) (settled_start habits.section start) turns all k ∙ sym (start_chosen habits start turns k)))

  -- a run fails in no other way than the place that stands for it
  pub good_run : (choices : List Choice) (found : HasTurns (quiet_by_habit habits) meant (turns_start habits start) start choices)
      → fails_there rule always habits.section inputs (reached found.turns) ≡ false
      → run_fails rule always habits.section image inputs choices ≡ false
  good_run choices found good =
      let p = reached found.turns in
      let each = one_each (length inputs) p.chosen in
      let stride = stride_by_habit habits in
      let s = settled_start habits.section start in
      let w = run start choices in
      let both = fails_not (breaks_asked always habits.section p.world) (fails May (judged rule inputs each p.world.harts)) good in
      fails_neither (breaks_asked always habits.section w) (fails May (judged rule inputs choices w.harts))
      (covered_breaks habits always unowned p.world w (aligned_after choices) found.place.covers both.0)
      (passes rule inputs p.world.harts w.harts each choices (covered_stops habits p.world w found.place.covers)
      (λ k e. found.place.fewer k (chosen_reached stride s found.turns k ∙ sym (alike stride refusals (length inputs) s found.turns found.are_meant k) ∙ e)) both.1)

  -- ---- an answer for places is one for runs
  pub safe_is_safe : IsSafe meant (turns_start habits start) (fails_there rule always habits.section inputs)
      → ((n : ℕ) → AreClear (clear_by_habit habits) meant (turns_start habits start) n)
      → (choices : List Choice) → IsListOf meant choices → run_fails rule always habits.section image inputs choices ≡ false
  safe_is_safe safe clear choices all =
      let found = run_has_start habits meant start choices (start_aligned image inputs entry) all (clear (length choices)) in
      good_run choices found (safe found.turns found.are_meant)

  pub bad_is_bad : (turns choices : List Choice) (count : ℕ) → IsListOf meant turns
      → ((other : List Choice) → IsListOf meant other → length other < count → fails_there rule always habits.section inputs (reached other) ≡ false)
      → AreClear (clear_by_habit habits) meant (turns_start habits start) count
      → run_fails rule always habits.section image inputs choices ≡ true
      → choices ≡ choices_from_start habits start turns → length turns ≡ count
      → FailsFirst habits.section meant start (run_fails rule always habits.section image inputs) choices count
  bad_is_bad turns choices count all good clear failed is count_is = record {
    owners = habits.owners;
    turns = turns;
    count_is = count_is;
    choices_are = is;
    meant_ones = subst (IsListOf meant) (sym is) (start_meant habits refusals image inputs entry (is_chosen turns) turns all);
    meant_turns = all;
    fails = failed;
    fewest = λ other others less.
        sym (fails_alike other others (clear_turns habits meant (turns_start habits start) other count others (omega (arith, less)) clear))
        ∙ good other others less;
    shortest = λ other others less.
        let found = run_has_start habits meant start other (start_aligned image inputs entry) others (λ ts c ms is_in low. clear ts c ms is_in (omega (arith, low, less))) in
        good_run other found (good found.turns found.are_meant (let few = found.no_more in omega (arith, few, less)));
  }

-- ---- what a search with these words says
module _ (rule : Option Kind) (always : Option Always) (section : Option Section) (words : List OwnWord) (refusals : ScRefusals) (image : ImageValue) (inputs : List ℕ)
    (sound : IsSound image.entry image.segments) where
  abbrev habits : Habits
  habits = habits_with section (owners_in words)

  abbrev turns_of : List Choice
  turns_of = meant_choices refusals (length inputs)

  abbrev first : Place
  first = turns_start habits (started image inputs)

  abbrev stops : Place → Bool
  stops = ends_search rule always section words inputs

  -- a place that turns lead to has the rights of the image
  shut_there : (turns : List Choice) → ShutAbove (place_reached first turns).world.memory
  shut_there turns =
      let begun = begun_choices section (started image inputs) (λ h. true) (length (started image inputs).harts) in
      let choices = turns_choices (stride_by_habit habits) first.world turns in
      subst (λ (w : World). ShutAbove w.memory)
      (ap (λ (w : World). run w choices) (run_of_begun section (started image inputs) (λ h. true) (length (started image inputs).harts))
      ∙ run_of_turns (stride_by_habit habits) first.world turns)
      (run_shut (run (started image inputs) begun) choices (run_shut (started image inputs) begun (started_shut image inputs sound)))

  clear_there : (turns : List Choice) (c : Choice) → Contains turns_of c → stops (place_reached first turns) ≡ false
      → clear_by_habit habits (place_reached first turns).world c.hart ≡ true
  clear_there turns c there good =
      let p = place_reached first turns in
      clear_below words p.world (length inputs) c.hart (shut_there turns) (in_range refusals (length inputs) c there)
      (neither (fails_there rule always section inputs p) (strays_from words p.world (length inputs)) good).1

  pub safe_good : IsSafe turns_of first stops → IsSafe turns_of first (fails_there rule always section inputs)
  safe_good safe turns all =
      let p = place_reached first turns in
      (neither (fails_there rule always section inputs p) (strays_from words p.world (length inputs)) (safe turns all)).0

  pub safe_clear : IsSafe turns_of first stops → (n : ℕ) → AreClear (clear_by_habit habits) turns_of first n
  safe_clear safe n turns c all there less = clear_there turns c there (safe turns all)

  pub bad_good : (list : List Choice) → LeadsToBad turns_of first stops list → (other : List Choice) → IsListOf turns_of other
      → length other < length list → fails_there rule always section inputs (place_reached first other) ≡ false
  bad_good list bad other all less =
      let p = place_reached first other in
      (neither (fails_there rule always section inputs p) (strays_from words p.world (length inputs)) (bad.shortest other all less)).0

  pub bad_clear : (list : List Choice) → LeadsToBad turns_of first stops list → AreClear (clear_by_habit habits) turns_of first (length list)
  bad_clear list bad turns c all there less = clear_there turns c there (bad.shortest turns all less)

  -- where no word has an owner nobody strays, so that such turns fail
  pub unowned_fails : image.entry % 4 ≡ 0 → IsUnowned always (owners_in words) → words ≡ [] → (list choices : List Choice)
      → LeadsToBad turns_of first stops list → choices ≡ choices_from_start habits (started image inputs) list
      → run_fails rule always section image inputs choices ≡ true
  unowned_fails entry unowned none list choices bad is =
      let p = place_reached first list in
      ap (run_fails rule always section image inputs) is
      ∙ sym (fails_alike rule always habits refusals image inputs entry unowned list bad.meant
      (clear_turns habits turns_of first list (length list) bad.meant (omega arith) (bad_clear list bad)))
      ∙ or_none (fails_there rule always section inputs p) (strays_from words p.world (length inputs))
      (ap (λ ws. strays_from ws p.world (length inputs)) none) bad.ends
    where
      or_none : (a b : Bool) → b ≡ false → a || b ≡ true → a ≡ true
      or_none true b no_ e = refl
      or_none false true no_ e = absurd (true≢false no_)
      or_none false false no_ e = e

-- the same by equal parts
pub moved : {Z : Type 0} (P : List Choice → ImageValue → List ℕ → Option Kind → Option Always → LocalCode Z → Found Z → Type 0)
    {m1 m2 : List Choice} {i1 i2 : ImageValue} {n1 n2 : List ℕ} {r1 r2 : Option Kind} {a1 a2 : Option Always} {k1 k2 : LocalCode Z}
    {f1 f2 : Found Z} → m1 ≡ m2 → i1 ≡ i2 → n1 ≡ n2 → r1 ≡ r2 → a1 ≡ a2 → k1 ≡ k2 → f1 ≡ f2 → P m1 i1 n1 r1 a1 k1 f1
    → P m2 i2 n2 r2 a2 k2 f2
moved P {m1} {m2} {i1} {i2} {n1} {n2} {r1} {r2} {a1} {a2} {k1} {k2} {f1} {f2} m i n r a k f p =
    subst (P m2 i2 n2 r2 a2 k2) f (subst (λ x. P m2 i2 n2 r2 a2 x f1) k (subst (λ x. P m2 i2 n2 r2 x k1 f1) a
    (subst (λ x. P m2 i2 n2 x a1 k1 f1) r (subst (λ x. P m2 i2 x r1 a1 k1 f1) n (subst (λ x. P m2 x n1 r1 a1 k1 f1) i
    (subst (λ x. P x i1 n1 r1 a1 k1 f1) m p))))))
