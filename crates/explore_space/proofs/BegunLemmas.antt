-- Harts that have taken their first local steps.
use Rattle.std.proofs.Common.{◌≡◌, ℕ, zero, suc, ◌<◌, ◌≤◌, ◌==◌, Bool, true, false, ◌||◌, List, [], ◌∷◌, ◌++◌, length, cond, Option, refl, ap, sym, ◌∙◌, subst, inl, inr, ◌⊎◌, arith}
use Rattle.std.proofs.lemmas.Bool.{cases_eq, ne_eqb}
use Rattle.std.proofs.lemmas.List.{append-nil}
use Rattle.std.specs.List.{slice_get}
use Rattle.hart_local.specs.CodeMemory.{code_in}
use Rattle.hart_local.proofs.RunLemmas.{code_in_run}
use Rattle.hart_local.specs.LocalRuns.{plain_choices}
use Rattle.machine.specs.Chosen.{is_chosen, own}
use Rattle.machine.specs.World.{World, run}
use Rattle.machine.specs.declared.choice.Choice.{Choice}
use Rattle.machine.proofs.RunLaws.{run_length}
use Rattle.explore_laws.specs.Covering.{WorldCovers}
use Rattle.explore_laws.specs.Places.{place_begun, place_reached}
use Rattle.explore_laws.specs.Quiet.{AreAligned, AreQuiet}
use Rattle.explore_laws.specs.Settling.{turns_choices}
use Rattle.explore_laws.proofs.CountLemmas.{other_plain, own_joined, own_plain}
use Rattle.explore_laws.proofs.ListLemmas.{run_joined, run_nothing}
use Rattle.explore_laws.proofs.PlaceLemmas.{chosen_reached}
use Rattle.explore_laws.proofs.QuietLemmas.{aligned_run, others_run, quiet_joined}
use Rattle.explore_laws.proofs.TurnLemmas.{chosen_in_turns, run_of_turns}
use Rattle.explore_space.specs.Begun.{begun_choices, choices_from_start, first_steps, hart_begun, hart_settled, runs_settled, settled_start, world_begun}
use Rattle.explore_space.specs.Habits.{Habits, quiet_by_habit, stride_by_habit}
use Rattle.explore_space.specs.Resting.{stride_of}
use Rattle.explore_space.specs.declared.section.Section.{Section}
use Rattle.explore_space.proofs.HabitLemmas.{rest_quiet}

module _ (section : Option Section) where
  -- ---- one hart
  pub run_of_first : (w : World) (n : ℕ) → run w (plain_choices n (first_steps section w n)) ≡ hart_begun section w n
  run_of_first w n = by_case (runs_settled section w n)
    where
      by_case : (b : Bool) → run w (plain_choices n (cond b (stride_of section w n) 0)) ≡ cond b (hart_settled section w n) w
      by_case true = refl
      by_case false = run_nothing w

  -- another hart is as before
  pub begun_other : (w : World) (n h : ℕ) → (h ≡ n → ⊥) → slice_get (hart_begun section w n).harts h ≡ slice_get w.harts h
  begun_other w n h other =
      ap (λ (x : World). slice_get x.harts h) (sym (run_of_first w n))
      ∙ others_run w (plain_choices n (first_steps section w n)) h (other_plain n (first_steps section w n) h (λ e. other (sym e)))

  -- ---- the first n harts
  pub run_of_begun : (w : World) (asked : ℕ → Bool) (n : ℕ) → run w (begun_choices section w asked n) ≡ world_begun section w asked n
  unfolding world_begun begun_choices
  run_of_begun w asked zero = run_nothing w
  run_of_begun w asked (suc n) = by_case (asked n) (run_of_begun w asked n)
    where
      by_case : (b : Bool) → run w (begun_choices section w asked n) ≡ world_begun section w asked n
          → run w (begun_choices section w asked n ++ cond b (plain_choices n (first_steps section (world_begun section w asked n) n)) [])
          ≡ cond b (hart_begun section (world_begun section w asked n) n) (world_begun section w asked n)
      by_case true before =
          let more = plain_choices n (first_steps section (world_begun section w asked n) n) in
          run_joined w (begun_choices section w asked n) more ∙ ap (λ (x : World). run x more) before ∙ run_of_first (world_begun section w asked n) n
      by_case false before = ap (run w) (append-nil (begun_choices section w asked n)) ∙ before

  pub begun_aligned : (w : World) (asked : ℕ → Bool) (n : ℕ) → AreAligned w → AreAligned (world_begun section w asked n)
  begun_aligned w asked n aligned = subst AreAligned (run_of_begun w asked n) (aligned_run w (begun_choices section w asked n) aligned)

  pub begun_behind : (w : World) (asked : ℕ → Bool) (n h : ℕ) → n ≤ h
      → slice_get (world_begun section w asked n).harts h ≡ slice_get w.harts h
  unfolding world_begun
  begun_behind w asked zero h past = refl
  begun_behind w asked (suc n) h past = by_case (asked n) (begun_behind w asked n h (omega (arith, past)))
    where
      by_case : (b : Bool) → slice_get (world_begun section w asked n).harts h ≡ slice_get w.harts h
          → slice_get (cond b (hart_begun section (world_begun section w asked n) n) (world_begun section w asked n)).harts h ≡ slice_get w.harts h
      by_case true before = begun_other (world_begun section w asked n) n h (λ e. omega (arith, e, past)) ∙ before
      by_case false before = before

  pub begun_count : (w : World) (asked : ℕ → Bool) (n : ℕ) → length (world_begun section w asked n).harts ≡ length w.harts
  begun_count w asked n =
      ap (λ (x : World). length x.harts) (sym (run_of_begun w asked n)) ∙ run_length w (begun_choices section w asked n)

pub begun_code : (section : Option Section) (w : World) (asked : ℕ → Bool) (n : ℕ)
    → code_in (world_begun section w asked n).memory ≡ code_in w.memory
begun_code section w asked n =
    ap (λ (x : World). code_in x.memory) (sym (run_of_begun section w asked n)) ∙ code_in_run w (begun_choices section w asked n)

-- ---- the first local steps are quiet
module _ (habits : Habits) where
  first_quiet : (w : World) (n : ℕ) → AreAligned w → AreQuiet (quiet_by_habit habits) w (plain_choices n (first_steps habits.section w n))
  first_quiet w n aligned = by_case (runs_settled habits.section w n)
    where
      by_case : (b : Bool) → AreQuiet (quiet_by_habit habits) w (plain_choices n (cond b (stride_of habits.section w n) 0))
      by_case true = rest_quiet habits w n aligned
      by_case false = tt

  pub begun_quiet : (w : World) (asked : ℕ → Bool) (n : ℕ) → AreAligned w → AreQuiet (quiet_by_habit habits) w (begun_choices habits.section w asked n)
  unfolding begun_choices
  begun_quiet w asked zero aligned = tt
  begun_quiet w asked (suc n) aligned = by_case (asked n) (begun_quiet w asked n aligned)
    where
      at : World
      at = world_begun habits.section w asked n

      by_case : (b : Bool) → AreQuiet (quiet_by_habit habits) w (begun_choices habits.section w asked n)
          → AreQuiet (quiet_by_habit habits) w (begun_choices habits.section w asked n ++ cond b (plain_choices n (first_steps habits.section at n)) [])
      by_case true before = quiet_joined (quiet_by_habit habits) w (begun_choices habits.section w asked n) (plain_choices n (first_steps habits.section at n)) before
          (subst (λ x. AreQuiet (quiet_by_habit habits) x (plain_choices n (first_steps habits.section at n))) (sym (run_of_begun habits.section w asked n))
          (first_quiet at n (begun_aligned habits.section w asked n aligned)))
      by_case false before = subst (AreQuiet (quiet_by_habit habits) w) (sym (append-nil (begun_choices habits.section w asked n))) before

  -- the world where turns start covers the one before any choice
  abbrev pub start_covers : (w : World) → AreAligned w → WorldCovers (quiet_by_habit habits) (settled_start habits.section w) w
  start_covers w aligned = record {
    choices = begun_choices habits.section w (λ k. true) (length w.harts);
    are_quiet = begun_quiet w (λ k. true) (length w.harts) aligned;
    leads = run_of_begun habits.section w (λ k. true) (length w.harts);
  }

-- ---- who is chosen
or_joined : (a b c : Bool) → a || (b || c) ≡ (a || b) || c
or_joined true b c = refl
or_joined false b c = refl

or_either : (a b : Bool) → a || b ≡ true → (a ≡ true) ⊎ (b ≡ true)
or_either true b e = inl refl
or_either false b e = inr e

or_absorbs : (a b : Bool) → (a ≡ true → b ≡ true) → a || b ≡ b
or_absorbs true b leads = sym (leads refl)
or_absorbs false b leads = refl

joined_chosen : (a b : List Choice) (k : ℕ) → is_chosen (a ++ b) k ≡ is_chosen a k || is_chosen b k
joined_chosen [] b k = refl
joined_chosen (c ∷ a) b k =
    ap (λ t. (c.hart == k) || t) (joined_chosen a b k) ∙ or_joined (c.hart == k) (is_chosen a k) (is_chosen b k)

plain_chosen : (h m k : ℕ) → is_chosen (plain_choices h m) k ≡ true → h ≡ k
plain_chosen h zero k e = absurd (cc)
plain_chosen h (suc m) k e = elim (cases_eq h k) [
  | inl same ↦ same
  | inr other ↦ plain_chosen h m k (rw (ne_eqb h k other) at e)
]

begun_chosen : (section : Option Section) (w : World) (asked : ℕ → Bool) (n k : ℕ) → is_chosen (begun_choices section w asked n) k ≡ true
    → asked k ≡ true
unfolding begun_choices
begun_chosen section w asked zero k e = absurd (cc)
begun_chosen section w asked (suc n) k e = by_case (asked n) refl (begun_chosen section w asked n k) e
  where
    more : List Choice
    more = plain_choices n (first_steps section (world_begun section w asked n) n)

    by_case : (b : Bool) → asked n ≡ b → (is_chosen (begun_choices section w asked n) k ≡ true → asked k ≡ true)
        → is_chosen (begun_choices section w asked n ++ cond b more []) k ≡ true → asked k ≡ true
    by_case true is before e =
        elim (or_either (is_chosen (begun_choices section w asked n) k) (is_chosen more k) (sym (joined_chosen (begun_choices section w asked n) more k) ∙ e)) [
          | inl old ↦ before old
          | inr new ↦ subst (λ i. asked i ≡ true) (plain_chosen n (first_steps section (world_begun section w asked n) n) k new) is
        ]
    by_case false is before e = before (ap (λ (cs : List Choice). is_chosen cs k) (sym (append-nil (begun_choices section w asked n))) ∙ e)

pub start_chosen : (habits : Habits) (w : World) (turns : List Choice) (k : ℕ)
    → is_chosen (choices_from_start habits w turns) k ≡ is_chosen turns k
start_chosen habits w turns k =
    let n = length w.harts in
    let first = begun_choices habits.section w (is_chosen turns) n in
    let at = world_begun habits.section w (is_chosen turns) n in
    let stride = stride_by_habit habits in
    joined_chosen first (turns_choices stride at turns) k
    ∙ ap (λ t. is_chosen first k || t) (chosen_in_turns stride at turns k ∙ chosen_reached stride at turns k)
    ∙ or_absorbs (is_chosen first k) (is_chosen turns k) (begun_chosen habits.section w (is_chosen turns) n k)

-- ---- where the choices lead
pub run_from_start : (habits : Habits) (w : World) (turns : List Choice)
    → run w (choices_from_start habits w turns)
    ≡ (place_reached (place_begun (stride_by_habit habits) (world_begun habits.section w (is_chosen turns) (length w.harts))) turns).world
run_from_start habits w turns =
    let n = length w.harts in
    let at = world_begun habits.section w (is_chosen turns) n in
    let stride = stride_by_habit habits in
    run_joined w (begun_choices habits.section w (is_chosen turns) n) (turns_choices stride at turns)
    ∙ ap (λ (x : World). run x (turns_choices stride at turns)) (run_of_begun habits.section w (is_chosen turns) n)
    ∙ run_of_turns stride at turns

-- ---- how often a hart is chosen
pub own_past : (section : Option Section) (w : World) (n h : ℕ) → n ≤ h → own (begun_choices section w (λ k. true) n) h ≡ 0
unfolding begun_choices
own_past section w zero h past = refl
own_past section w (suc n) h past =
    let more = plain_choices n (first_steps section (world_begun section w (λ k. true) n) n) in
    let both = own_joined (begun_choices section w (λ k. true) n) more h in
    let before = own_past section w n h (omega (arith, past)) in
    let none = other_plain n (first_steps section (world_begun section w (λ k. true) n) n) h (λ e. omega (arith, e, past)) in
    omega (arith, both, before, none)

-- a hart takes its first steps, after the harts below it
pub own_begun : (section : Option Section) (w : World) (n h : ℕ) → h < n
    → own (begun_choices section w (λ k. true) n) h ≡ first_steps section (world_begun section w (λ k. true) h) h
unfolding begun_choices
own_begun section w zero h low = absurd (omega (arith, low))
own_begun section w (suc n) h low = elim (cases_eq n h) [
  | inl same ↦
      let count = first_steps section (world_begun section w (λ k. true) n) n in
      let both = own_joined (begun_choices section w (λ k. true) n) (plain_choices n count) n in
      let before = own_past section w n n (omega arith) in
      let here = own_plain n count in
      let is : own (begun_choices section w (λ k. true) n ++ plain_choices n count) n ≡ count = omega (arith, both, before, here) in
      subst (λ i. own (begun_choices section w (λ k. true) n ++ plain_choices n count) i ≡ first_steps section (world_begun section w (λ k. true) i) i) same is
  | inr other ↦
      let count = first_steps section (world_begun section w (λ k. true) n) n in
      let both = own_joined (begun_choices section w (λ k. true) n) (plain_choices n count) h in
      let before = own_begun section w n h (omega (arith, low, other)) in
      let none = other_plain n count h other in
      omega (arith, both, before, none)
]
