-- A run in which harts that take no turn haven't taken their first local steps either.
use Rattle.std.proofs.Common.{◌≡◌, ℕ, zero, suc, ◌+◌, ◌<◌, ◌≤◌, ◌==◌, Bool, true, false, not, ◌&&◌, List, [], ◌∷◌, ◌++◌, length, get_or, cond, Option, Some, refl, ap, sym, ◌∙◌, subst, inl, inr, arith, eq-eqb, true≢false}
use Rattle.std.proofs.lemmas.Bool.{cases_Bool, cases_eq, or_right}
use Rattle.std.proofs.lemmas.Option.{get_or_from_slice_get, slice_get-get_or}
use Rattle.std.proofs.lemmas.List.Elements.{All-cons, All-head, All-nil, All-tail}
use Rattle.std.specs.List.{All, Contains, slice_get}
use Rattle.image.specs.Image.{ImageValue}
use Rattle.hart_step.specs.Hart.{HartValue}
use Rattle.hart_local.specs.LocalRuns.{plain_choices}
use Rattle.machine.specs.Chosen.{ChooseAlike, is_chosen, own}
use Rattle.machine.specs.Start.{first_harts, started}
use Rattle.machine.specs.World.{World, step, run}
use Rattle.machine.specs.declared.choice.Choice.{Choice}
use Rattle.machine.proofs.RunLaws.{run_length}
use Rattle.object_library.specs.declared.kind.Kind.{Kind}
use Rattle.outcome.specs.Expect.{fails, judged}
use Rattle.outcome.specs.declared.expect.Exit.TheVariants.{May}
use Rattle.explore_laws.specs.Bounds.{not_stopped, still_runs}
use Rattle.explore_laws.specs.Covering.{AreClear, WorldCovers}
use Rattle.explore_laws.specs.Places.{Place, place_after, place_begun, place_reached}
use Rattle.explore_laws.specs.Quiet.{AreAligned, AreQuiet, CanWait}
use Rattle.explore_laws.specs.Settling.{Stride, world_settled}
use Rattle.explore_laws.proofs.CountLemmas.{none_own, other_plain, own_joined}
use Rattle.explore_laws.proofs.ListLemmas.{run_joined, run_nothing}
use Rattle.explore_laws.proofs.QuietLemmas.{aligned_run, others_run, quiet_joined, step_aligned}
use Rattle.explore_space.specs.Begun.{choices_from_start, hart_begun, hart_settled, runs_outside, runs_outside_there, runs_settled, settled_start, turns_start, world_begun}
use Rattle.explore_space.specs.Habits.{Habits, clear_by_habit, local_stride, quiet_by_habit, stride_by_habit}
use Rattle.explore_space.specs.Resting.{rests_in, stride_of}
use Rattle.explore_space.specs.declared.section.Section.{Section}
use Rattle.explore_space.proofs.BegunLemmas.{begun_aligned, run_from_start}
use Rattle.explore_space.proofs.PassLemmas.{StopsAlike, covered_stops, exited_stopped, faulted_stopped, passes}
use Rattle.explore_space.proofs.PastLemmas.{ArePast, Apart, behind, past, stride_along}
use Rattle.explore_space.proofs.HabitLemmas.{habits_wait, rest_quiet, rests_wait}

-- each hart of a world runs
pub record AllRun (w : World) : Type 0 where
  pub each : (h : ℕ) (v : HartValue) → slice_get w.harts h ≡ Some v → not_stopped v.state ≡ true

-- quiet steps of harts for which `who` doesn't say so lead from one world to another; these run
-- there, and those of them that stand in the section there are the same in both
pub record Ahead (habits : Habits) (who : ℕ → Bool) (s w : World) : Type 0 where
  pub choices : List Choice
  pub are_quiet : AreQuiet (quiet_by_habit habits) w choices
  pub leads : run w choices ≡ s
  pub none : (h : ℕ) → who h ≡ true → own choices h ≡ 0
  pub runs : (h : ℕ) (u : HartValue) → who h ≡ false → slice_get s.harts h ≡ Some u → not_stopped u.state ≡ true
  pub stays : (h : ℕ) (u : HartValue) → who h ≡ false → slice_get s.harts h ≡ Some u → rests_in habits.section u ≡ true
      → slice_get w.harts h ≡ Some u

-- the step of each turn from a place is clear
abbrev pub ClearTurns : Habits → Place → List Choice → Type 0
ClearTurns habits p [] = Unit {0}
ClearTurns habits p (c ∷ turns) = (clear_by_habit habits p.world c.hart ≡ true) × ClearTurns habits (place_after p c) turns

clear_after : (habits : Habits) (meant : List Choice) (p : Place) (c : Choice) (n : ℕ) → Contains meant c
    → AreClear (clear_by_habit habits) meant p (suc n) → AreClear (clear_by_habit habits) meant (place_after p c) n
unfolding place_reached
clear_after habits meant p c n there clear turns d all in_ less =
    clear (c ∷ turns) d (All-cons (Contains meant) c turns there all) in_ (omega (arith, less))

-- so they are where each step is clear wherever fewer turns lead
pub clear_turns : (habits : Habits) (meant : List Choice) (p : Place) (turns : List Choice) (n : ℕ) → All (Contains meant) turns
    → length turns ≤ n → AreClear (clear_by_habit habits) meant p n → ClearTurns habits p turns
unfolding place_reached
clear_turns habits meant p [] n all few clear = tt
clear_turns habits meant p (c ∷ turns) zero all few clear = absurd (omega (arith, few))
clear_turns habits meant p (c ∷ turns) (suc n) all few clear =
    let there = All-head (Contains meant) c turns all in (
      clear [] c (All-nil (Contains meant)) there (omega arith),
      clear_turns habits meant (place_after p c) turns n (All-tail (Contains meant) c turns all) (omega (arith, few))
          (clear_after habits meant p c n there clear),
    )

-- and behind meant turns too
pub clear_from : (habits : Habits) (meant : List Choice) (p : Place) (turns : List Choice) → All (Contains meant) turns
    → ((n : ℕ) → AreClear (clear_by_habit habits) meant p n) → (n : ℕ) → AreClear (clear_by_habit habits) meant (place_reached p turns) n
unfolding place_reached
clear_from habits meant p [] all clear n = clear n
clear_from habits meant p (c ∷ turns) all clear n =
    clear_from habits meant (place_after p c) turns (All-tail (Contains meant) c turns all)
    (λ k. clear_after habits meant p c k (All-head (Contains meant) c turns all) (clear (suc k))) n

module _ (habits : Habits) (who : ℕ → Bool) where
  pub ahead_covers : (s w : World) → Ahead habits who s w → WorldCovers (quiet_by_habit habits) s w
  ahead_covers s w ahead = record { choices = ahead.choices; are_quiet = ahead.are_quiet; leads = ahead.leads }

  -- the other harts are the same in both
  pub ahead_same : (s w : World) → Ahead habits who s w → (h : ℕ) → who h ≡ true → slice_get s.harts h ≡ slice_get w.harts h
  ahead_same s w ahead h yes_ =
      ap (λ (x : World). slice_get x.harts h) (sym ahead.leads) ∙ others_run w ahead.choices h (ahead.none h yes_)

  ahead_itself : (w : World) → AllRun w → Ahead habits who w w
  ahead_itself w all = record {
    choices = [];
    are_quiet = tt;
    leads = run_nothing w;
    none = λ h yes_. refl;
    runs = λ h u no_ at. all.each h u at;
    stays = λ h u no_ at within. at;
  }

  differs : (h k : ℕ) → who h ≡ false → who k ≡ true → h ≡ k → ⊥
  differs h k no_ yes_ e = true≢false (sym yes_ ∙ ap who (sym e) ∙ no_)

  -- one of the other harts takes quiet steps in both
  apart_plain : (s w : World) (ahead : Ahead habits who s w) (h n : ℕ) → who h ≡ true → Apart ahead.choices (plain_choices h n)
  apart_plain s w ahead h zero yes_ = tt
  apart_plain s w ahead h (suc n) yes_ = (ahead.none h yes_, apart_plain s w ahead h n yes_)

  -- ---- strides of quiet steps
  module _ (stride : Stride) (waits : CanWait (quiet_by_habit habits) (clear_by_habit habits) stride) where
    settle_past : (s w : World) (h : ℕ) → AreAligned w → (ahead : Ahead habits who s w) → who h ≡ true
        → (stride s h ≡ stride w h) × ArePast (quiet_by_habit habits) w ahead.choices (plain_choices h (stride w h))
    settle_past s w h aligned ahead yes_ = (
      ap (λ x. stride x h) (sym ahead.leads)
          ∙ stride_along (quiet_by_habit habits) (clear_by_habit habits) stride waits w ahead.choices h aligned ahead.are_quiet (ahead.none h yes_),
      past (quiet_by_habit habits) (clear_by_habit habits) stride waits w ahead.choices (plain_choices h (stride w h)) aligned ahead.are_quiet
          (waits.strides w h aligned) (apart_plain s w ahead h (stride w h) yes_),
    )

    pub settled_is_past : (s w : World) (h : ℕ) → AreAligned w → (ahead : Ahead habits who s w) → who h ≡ true
        → run (world_settled stride w h) ahead.choices ≡ world_settled stride s h
    settled_is_past s w h aligned ahead yes_ =
        let both = settle_past s w h aligned ahead yes_ in
        both.1.leads ∙ ap (λ x. run x (plain_choices h (stride w h))) ahead.leads
        ∙ ap (λ n. run s (plain_choices h n)) (sym both.0)

    pub other_settled : (w : World) (h k : ℕ) → (k ≡ h → ⊥) → slice_get (world_settled stride w h).harts k ≡ slice_get w.harts k
    other_settled w h k other = others_run w (plain_choices h (stride w h)) k
        (other_plain h (stride w h) k (λ e. other (sym e)))

    pub settle_both : (s w : World) (h : ℕ) → AreAligned w → Ahead habits who s w → who h ≡ true
        → Ahead habits who (world_settled stride s h) (world_settled stride w h)
    settle_both s w h aligned ahead yes_ =
        let both = settle_past s w h aligned ahead yes_ in
        record {
          choices = ahead.choices;
          are_quiet = both.1.are_quiet;
          leads = settled_is_past s w h aligned ahead yes_;
          none = ahead.none;
          runs = λ k u no_ at. ahead.runs k u no_ (sym (other_settled s h k (differs k h no_ yes_)) ∙ at);
          stays = λ k u no_ at within.
              other_settled w h k (differs k h no_ yes_)
              ∙ ahead.stays k u no_ (sym (other_settled s h k (differs k h no_ yes_)) ∙ at) within;
        }

  -- ---- turns
  one_step : (w : World) (c : Choice) (k : ℕ) → (k ≡ c.hart → ⊥) → slice_get (step w c).harts k ≡ slice_get w.harts k
  unfolding run
  one_step w c k other = others_run w (c ∷ []) k (none_own c [] k (λ e. other (sym e)))

  step_alike : (s w : World) (c : Choice) → AreAligned w → Ahead habits who s w → who c.hart ≡ true
      → clear_by_habit habits s c.hart ≡ true → Ahead habits who (step s c) (step w c)
  step_alike s w c aligned ahead yes_ clear =
      let is = behind (quiet_by_habit habits) (clear_by_habit habits) (stride_by_habit habits) (habits_wait habits) w c ahead.choices aligned
      ahead.are_quiet (ap (λ x. clear_by_habit habits x c.hart) ahead.leads ∙ clear) (ahead.none c.hart yes_) in
      record {
        choices = ahead.choices;
        are_quiet = is.are_quiet;
        leads = is.leads ∙ ap (λ x. step x c) ahead.leads;
        none = ahead.none;
        runs = λ k u no_ at. ahead.runs k u no_ (sym (one_step s c k (differs k c.hart no_ yes_)) ∙ at);
        stays = λ k u no_ at within.
            one_step w c k (differs k c.hart no_ yes_)
            ∙ ahead.stays k u no_ (sym (one_step s c k (differs k c.hart no_ yes_)) ∙ at) within;
      }

  pub turns_ahead : (p q : Place) (turns : List Choice) → p.stride ≡ stride_by_habit habits → q.stride ≡ stride_by_habit habits → AreAligned q.world
      → ((k : ℕ) → is_chosen turns k ≡ true → who k ≡ true) → ClearTurns habits p turns → Ahead habits who p.world q.world
      → Ahead habits who (place_reached p turns).world (place_reached q turns).world
  unfolding place_reached
  turns_ahead p q [] p_is q_is aligned all clear ahead = ahead
  turns_ahead p q (c ∷ turns) p_is q_is aligned all clear ahead =
      let stride = stride_by_habit habits in
      let yes_ : who c.hart ≡ true = all c.hart (rw (eq-eqb c.hart c.hart refl) refl) in
      let on = step_aligned q.world c aligned in
      let both = settle_both stride (habits_wait habits) (step p.world c) (step q.world c) c.hart on
      (step_alike p.world q.world c aligned ahead yes_ clear.0) yes_ in
      turns_ahead (place_after p c) (place_after q c) turns p_is q_is
      (aligned_run (step q.world c) (plain_choices c.hart (q.stride (step q.world c) c.hart)) on)
      (λ k e. all k (or_right (c.hart == k) (is_chosen turns k) e)) clear.1
      (subst (λ x. Ahead habits who (world_settled x (step p.world c) c.hart) (world_settled q.stride (step q.world c) c.hart)) (sym p_is)
      (subst (λ x. Ahead habits who (world_settled stride (step p.world c) c.hart) (world_settled x (step q.world c) c.hart)) (sym q_is) both))

-- ---- the first local steps
-- a hart that runs outside runs, and doesn't stand in the section
pub outside_runs : (section : Option Section) (u : HartValue) → runs_outside section u ≡ true → not_stopped u.state ≡ true
outside_runs section u outside = both (not_stopped u.state) (not (rests_in section u)) outside
  where
    both : (a b : Bool) → a && b ≡ true → a ≡ true
    both true b e = refl
    both false b e = absurd (cc)

outside_rests : (section : Option Section) (u : HartValue) → runs_outside section u ≡ true → rests_in section u ≡ true → ⊥
outside_rests section u outside within = both (not_stopped u.state) (rests_in section u) outside within
  where
    both : (a b : Bool) → a && not b ≡ true → b ≡ true → ⊥
    both true true e f = cc
    both false b e f = cc
    both true false e f = cc

module _ (habits : Habits) (who : ℕ → Bool) where
  -- a hart for which `who` doesn't say so takes its steps in the one alone
  begun_one : (s w : World) (n : ℕ) → AreAligned s → Ahead habits who s w → who n ≡ false → Ahead habits who (hart_begun habits.section s n) w
  begun_one s w n aligned ahead no_ = by_case (runs_settled habits.section s n) refl
    where
      k : ℕ
      k = stride_of habits.section s n

      more : List Choice
      more = plain_choices n k

      by_case : (b : Bool) → runs_settled habits.section s n ≡ b → Ahead habits who (cond b (hart_settled habits.section s n) s) w
      by_case false is = ahead
      by_case true is = record {
        choices = ahead.choices ++ more;
        are_quiet = quiet_joined (quiet_by_habit habits) w ahead.choices more ahead.are_quiet
            (subst (λ x. AreQuiet (quiet_by_habit habits) x more) (sym ahead.leads) (rest_quiet habits s n aligned));
        leads = run_joined w ahead.choices more ∙ ap (λ x. run x more) ahead.leads;
        none = λ h yes_.
            (let both = own_joined ahead.choices more h in
            let first = ahead.none h yes_ in
            let second = other_plain n k h (differs habits who n h no_ yes_) in
            omega (arith, both, first, second));
        runs = λ h u no_h at. elim (cases_eq h n) [
          | inl same ↦ outside_runs habits.section u (outside h u same at)
          | inr other ↦ ahead.runs h u no_h (sym (other_settled habits who (local_stride habits) (rests_wait habits) s n h other) ∙ at)
        ];
        stays = λ h u no_h at within. elim (cases_eq h n) [
          | inl same ↦ absurd (outside_rests habits.section u (outside h u same at) within)
          | inr other ↦ ahead.stays h u no_h (sym (other_settled habits who (local_stride habits) (rests_wait habits) s n h other) ∙ at) within
        ];
      }
        where
          outside : (h : ℕ) (u : HartValue) → h ≡ n → slice_get (hart_settled habits.section s n).harts h ≡ Some u → runs_outside habits.section u ≡ true
          outside h u same at = ap (runs_outside_there habits.section) (sym at ∙ ap (slice_get (hart_settled habits.section s n).harts) same) ∙ is

  -- the others take them in both or in none
  runs_alike : (s w : World) (n : ℕ) → AreAligned w → Ahead habits who s w → who n ≡ true
      → runs_settled habits.section s n ≡ runs_settled habits.section w n
  runs_alike s w n aligned ahead yes_ =
      ap (λ (x : World). runs_outside_there habits.section (slice_get x.harts n)) (sym (settled_is_past habits who (local_stride habits) (rests_wait habits) s w n aligned ahead yes_))
      ∙ ap (runs_outside_there habits.section) (others_run (hart_settled habits.section w n) ahead.choices n (ahead.none n yes_))

  begun_both : (s w : World) (n : ℕ) → AreAligned w → Ahead habits who s w → who n ≡ true
      → Ahead habits who (hart_begun habits.section s n) (hart_begun habits.section w n)
  begun_both s w n aligned ahead yes_ =
      subst (λ b. Ahead habits who (cond b (hart_settled habits.section s n) s) (hart_begun habits.section w n)) (sym (runs_alike s w n aligned ahead yes_))
      (by_case (runs_settled habits.section w n))
    where
      by_case : (b : Bool) → Ahead habits who (cond b (hart_settled habits.section s n) s) (cond b (hart_settled habits.section w n) w)
      by_case true = settle_both habits who (local_stride habits) (rests_wait habits) s w n aligned ahead yes_
      by_case false = ahead

  pub begun_ahead : (w : World) (n : ℕ) → AreAligned w → AllRun w
      → Ahead habits who (world_begun habits.section w (λ k. true) n) (world_begun habits.section w who n)
  unfolding world_begun
  begun_ahead w zero aligned all = ahead_itself habits who w all
  begun_ahead w (suc n) aligned all = by_case (who n) refl (begun_ahead w n aligned all)
    where
      s : World
      s = world_begun habits.section w (λ k. true) n

      by_case : (b : Bool) → who n ≡ b → Ahead habits who s (world_begun habits.section w who n)
          → Ahead habits who (hart_begun habits.section s n) (cond b (hart_begun habits.section (world_begun habits.section w who n) n) (world_begun habits.section w who n))
      by_case true is before = begun_both s (world_begun habits.section w who n) n (begun_aligned habits.section w who n aligned) before is
      by_case false is before = begun_one s (world_begun habits.section w who n) n (begun_aligned habits.section w (λ k. true) n aligned) before is

-- where turns lead from the settled start is ahead of where their choices lead from the start
pub start_ahead : (habits : Habits) (w : World) (turns : List Choice) → AreAligned w → AllRun w → ClearTurns habits (turns_start habits w) turns
    → Ahead habits (is_chosen turns) (place_reached (turns_start habits w) turns).world (run w (choices_from_start habits w turns))
start_ahead habits w turns aligned all clear =
    let who = is_chosen turns in
    let begun = world_begun habits.section w who (length w.harts) in
    subst (Ahead habits who (place_reached (turns_start habits w) turns).world) (sym (run_from_start habits w turns))
    (turns_ahead habits who (turns_start habits w) (place_begun (stride_by_habit habits) begun) turns refl refl
    (begun_aligned habits.section w who (length w.harts) aligned) (λ k e. e) clear (begun_ahead habits who w (length w.harts) aligned all))

-- ---- a program's harts all run at its start
first_run : (entry n h : ℕ) (inputs : List ℕ) (k : ℕ) (v : HartValue) → slice_get (first_harts entry n h inputs) k ≡ Some v
    → not_stopped v.state ≡ true
first_run entry n h [] k v e = absurd (cc)
first_run entry n h (input ∷ inputs) zero v e = ap (λ (o : Option HartValue). still_runs o) (sym e)
first_run entry n h (input ∷ inputs) (suc k) v e = first_run entry n (h + 1) inputs k v e

pub all_run : (image : ImageValue) (inputs : List ℕ) → AllRun (started image inputs)
unfolding started
all_run image inputs = record { each = first_run image.entry (length inputs) 0 inputs }

-- where turns start, all harts run
pub begun_run : (habits : Habits) (w : World) → AreAligned w → AllRun w → AllRun (settled_start habits.section w)
begun_run habits w aligned all = record {
  each = λ h u at. (begun_ahead habits (λ k. false) w (length w.harts) aligned all).runs h u refl at;
}

pub ahead_count : (habits : Habits) (who : ℕ → Bool) (s w : World) → Ahead habits who s w → length s.harts ≡ length w.harts
ahead_count habits who s w ahead = ap (λ (x : World). length x.harts) (sym ahead.leads) ∙ run_length w ahead.choices

-- ---- harts that have stopped are the same in both
module _ (habits : Habits) (who : ℕ → Bool) (s w : World) (ahead : Ahead habits who s w) where
  same_stopped : (i : ℕ) (d : HartValue) → i < length s.harts → not_stopped (get_or s.harts i d).state ≡ false
      → get_or s.harts i d ≡ get_or w.harts i d
  same_stopped i d low stopped = elim (cases_Bool (who i)) [
    | inl yes_ ↦
        get_or_from_slice_get s.harts i (get_or w.harts i d) d
        (ahead_same habits who s w ahead i yes_ ∙ slice_get-get_or w.harts i d (let c = ahead_count habits who s w ahead in omega (arith, low, c)))
    | inr no_ ↦
        absurd (true≢false (sym (ahead.runs i (get_or s.harts i d) no_ (slice_get-get_or s.harts i d low)) ∙ stopped))
  ]

  ahead_stops : StopsAlike w.harts s.harts
  ahead_stops = record {
    count = sym (ahead_count habits who s w ahead);
    exited = λ i d low e. same_stopped i d low (exited_stopped (get_or s.harts i d).state e);
    faulted = λ i d low e. same_stopped i d low (faulted_stopped (get_or s.harts i d).state e);
  }

both_false : (x y : Bool) → (x ≡ false → y ≡ false) → (y ≡ false → x ≡ false) → x ≡ y
both_false true true f g = refl
both_false true false f g = g refl
both_false false true f g = sym (f refl)
both_false false false f g = refl

-- a run has failed exactly where the world ahead of it has
pub fails_ahead : (habits : Habits) (rule : Option Kind) (inputs : List ℕ) (who : ℕ → Bool) (s w : World) (a b : List Choice)
    → Ahead habits who s w → ChooseAlike a b
    → fails May (judged rule inputs a s.harts) ≡ fails May (judged rule inputs b w.harts)
fails_ahead habits rule inputs who s w a b ahead alike =
    both_false (fails May (judged rule inputs a s.harts)) (fails May (judged rule inputs b w.harts))
    (passes rule inputs s.harts w.harts a b (covered_stops habits s w (ahead_covers habits who s w ahead)) (λ k e. sym (alike k) ∙ e))
    (passes rule inputs w.harts s.harts b a (ahead_stops habits who s w ahead) (λ k e. alike k ∙ e))
