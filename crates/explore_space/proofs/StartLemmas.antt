-- Turns from the world in which harts have taken their first local steps.
use Rattle.std.proofs.Common.{◌≡◌, ℕ, zero, suc, ◌+◌, ◌<◌, ◌≤◌, Bool, true, false, List, [], ◌∷◌, ◌++◌, length, cond, Some, refl, ap, sym, ◌∙◌, subst, arith, true≢false}
use Rattle.std.proofs.lemmas.List.Elements.{All-nil, All-cons, All-append}
use Rattle.std.specs.List.{All, Contains, slice_get}
use Rattle.hart_step.specs.Hart.{HartValue}
use Rattle.hart_local.specs.LocalRuns.{plain_choices}
use Rattle.machine.specs.Chosen.{own}
use Rattle.machine.specs.World.{World, run}
use Rattle.machine.specs.declared.choice.Choice.{Choice}
use Rattle.explore_laws.specs.Bounds.{runs_in, still_runs, HasNoBound, IsBound, RunsAfter}
use Rattle.explore_laws.specs.Covering.{AreClear, HasTurns, WorldCovers}
use Rattle.explore_laws.specs.Places.{Place, place_begun, place_reached}
use Rattle.explore_laws.specs.Quiet.{AreAligned, AreQuiet}
use Rattle.explore_laws.specs.Settling.{turns_choices}
use Rattle.explore_laws.proofs.CountLemmas.{own_joined}
use Rattle.explore_laws.proofs.CoverLemmas.{run_has_turns}
use Rattle.explore_laws.proofs.ListLemmas.{run_joined}
use Rattle.explore_laws.proofs.QuietLemmas.{others_run}
use Rattle.explore_laws.proofs.TurnLemmas.{run_of_turns, turns_from}
use Rattle.explore_bounds.specs.Steps.{TellsBound}
use Rattle.explore_bounds.specs.declared.bound.Bound.{Bound}
use Rattle.explore_bounds.specs.declared.bound.Bound.TheVariants.{After, Never}
use Rattle.explore_space.specs.Begun.{begun_choices, first_steps, hart_settled, runs_outside_there, runs_settled, settled_start, turns_start, world_begun}
use Rattle.explore_space.specs.Bounds.{TellsOwn, later_by}
use Rattle.explore_space.specs.Habits.{Habits, clear_by_habit, local_stride, quiet_by_habit, stride_by_habit}
use Rattle.explore_space.proofs.AheadLemmas.{AllRun, begun_run}
use Rattle.explore_space.proofs.BegunLemmas.{begun_count, begun_quiet, own_begun, own_past, run_of_begun, start_covers}
use Rattle.explore_space.proofs.PastLemmas.{Apart, past, stride_along}
use Rattle.explore_space.proofs.HabitLemmas.{habits_wait, rests_wait}

-- ---- turns from the settled start stand for each list of choices
pub run_has_start : (habits : Habits) (meant : List Choice) (first : World) (choices : List Choice) → AreAligned first
    → All (Contains meant) choices → AreClear (clear_by_habit habits) meant (turns_start habits first) (length choices)
    → HasTurns (quiet_by_habit habits) meant (turns_start habits first) first choices
run_has_start habits meant first choices aligned all clear =
    run_has_turns (quiet_by_habit habits) (clear_by_habit habits) (stride_by_habit habits) (habits_wait habits) meant
    (settled_start habits.section first) first choices aligned (start_covers habits first aligned) all clear

-- a world that covers another follows it
pub covered_follow : (habits : Habits) (meant : List Choice) (p : Place) (w : World) (choices : List Choice) → p.stride ≡ stride_by_habit habits
    → AreAligned w → WorldCovers (quiet_by_habit habits) p.world w → All (Contains meant) choices
    → AreClear (clear_by_habit habits) meant p (length choices)
    → (turns : List Choice) × All (Contains meant) turns × WorldCovers (quiet_by_habit habits) (place_reached p turns).world (run w choices)
covered_follow habits meant p w choices same aligned covers all clear =
    let stride = stride_by_habit habits in
    let found = run_has_turns (quiet_by_habit habits) (clear_by_habit habits) stride (habits_wait habits) meant p.world w choices aligned covers all
    (λ turns c are is less. ap (λ x. clear_by_habit habits x c.hart) (leads turns) ∙ clear turns c are is less) in
    (found.turns, found.are_meant, subst (λ x. WorldCovers (quiet_by_habit habits) x (run w choices)) (leads found.turns) found.place.covers)
  where
    leads : (turns : List Choice) → (place_reached (place_begun (stride_by_habit habits) p.world) turns).world ≡ (place_reached p turns).world
    leads turns = sym (run_of_turns (stride_by_habit habits) p.world turns)
        ∙ ap (λ x. run p.world (turns_choices x p.world turns)) (sym same) ∙ turns_from p turns

-- ---- the first steps of a hart
-- they are the same behind those of others
first_alike : (habits : Habits) (w : World) (others : List Choice) (h : ℕ) → AreAligned w → AreQuiet (quiet_by_habit habits) w others
    → own others h ≡ 0 → first_steps habits.section (run w others) h ≡ first_steps habits.section w h
first_alike habits w others h aligned are none =
    let section = habits.section in
    let stride = local_stride habits in
    let same : stride (run w others) h ≡ stride w h
    = stride_along (quiet_by_habit habits) (clear_by_habit habits) stride (rests_wait habits) w others h aligned are none in
    let of = past (quiet_by_habit habits) (clear_by_habit habits) stride (rests_wait habits) w others (plain_choices h (stride w h)) aligned are
    ((rests_wait habits).strides w h aligned) (apart (stride w h)) in
    let leads : run (hart_settled section w h) others ≡ hart_settled section (run w others) h
    = of.leads ∙ ap (λ n. run (run w others) (plain_choices h n)) (sym same) in
    let runs : runs_settled section (run w others) h ≡ runs_settled section w h
    = ap (λ (x : World). runs_outside_there section (slice_get x.harts h)) (sym leads)
    ∙ ap (runs_outside_there section) (others_run (hart_settled section w h) others h none) in
    ap (λ b. cond b (stride (run w others) h) 0) runs ∙ ap (λ n. cond (runs_settled section w h) n 0) same
  where
    apart : (n : ℕ) → Apart others (plain_choices h n)
    apart zero = tt
    apart (suc n) = (none, apart n)

-- the choices of the settled start choose each hart so often
pub own_start : (habits : Habits) (w : World) (h : ℕ) → AreAligned w → h < length w.harts
    → own (begun_choices habits.section w (λ k. true) (length w.harts)) h ≡ first_steps habits.section w h
own_start habits w h aligned low =
    let before = begun_choices habits.section w (λ k. true) h in
    own_begun habits.section w (length w.harts) h low
    ∙ ap (λ x. first_steps habits.section x h) (sym (run_of_begun habits.section w (λ k. true) h))
    ∙ first_alike habits w before h aligned (begun_quiet habits w (λ k. true) h aligned) (own_past habits.section w h h (omega arith))

-- ---- bounds
module _ (habits : Habits) (meant : List Choice) (w : World) (aligned : AreAligned w) (plain : (h : ℕ) → h < length w.harts → Contains meant (record { hart = h; refuse = false })) where
  plains_meant : (h n : ℕ) → h < length w.harts → All (Contains meant) (plain_choices h n)
  plains_meant h zero low = All-nil (Contains meant)
  plains_meant h (suc n) low =
      All-cons (Contains meant) (record { hart = h; refuse = false }) (plain_choices h n) (plain h low) (plains_meant h n low)

  pub begun_meant : (asked : ℕ → Bool) (n : ℕ) → n ≤ length w.harts → All (Contains meant) (begun_choices habits.section w asked n)
  unfolding begun_choices
  begun_meant asked zero low = All-nil (Contains meant)
  begun_meant asked (suc n) low = by_case (asked n) (begun_meant asked n (omega (arith, low)))
    where
      more : List Choice
      more = plain_choices n (first_steps habits.section (world_begun habits.section w asked n) n)

      by_case : (b : Bool) → All (Contains meant) (begun_choices habits.section w asked n)
          → All (Contains meant) (begun_choices habits.section w asked n ++ cond b more [])
      by_case true before = All-append (Contains meant) (begun_choices habits.section w asked n) more before
          (plains_meant n (first_steps habits.section (world_begun habits.section w asked n) n) (omega (arith, low)))
      by_case false before = All-append (Contains meant) (begun_choices habits.section w asked n) [] before (All-nil (Contains meant))

  runs_later : (h m n : ℕ) → h < length w.harts → RunsAfter meant (settled_start habits.section w) h m → n ≤ m + first_steps habits.section w h
      → RunsAfter meant w h n
  runs_later h m n low after few =
      let first = begun_choices habits.section w (λ k. true) (length w.harts) in
      let both = own_joined first after.choices h in
      let begun = own_start habits w h aligned low in
      let often = after.often in
      record {
        choices = first ++ after.choices;
        are_meant = All-append (Contains meant) first after.choices (begun_meant (λ k. true) (length w.harts) (omega arith)) after.are_meant;
        often = omega (arith, both, begun, often, few);
        runs = ap (λ (x : World). runs_in x h) (run_joined w first after.choices
            ∙ ap (λ (x : World). run x after.choices) (run_of_begun habits.section w (λ k. true) (length w.harts))) ∙ after.runs;
      }

  pub later_none : (h : ℕ) → h < length w.harts → HasNoBound meant (settled_start habits.section w) h → HasNoBound meant w h
  later_none h low none n = runs_later h n n low (none n) (omega arith)

  -- the hart runs where turns start
  start_runs : (h : ℕ) → h < length w.harts → AllRun w → runs_in (settled_start habits.section w) h ≡ true
  start_runs h low all =
      let at = hart_of_list (settled_start habits.section w).harts h (let c = begun_count habits.section w (λ k. true) (length w.harts) in omega (arith, c, low)) in
      ap still_runs at.1 ∙ (begun_run habits w aligned all).each h at.0 at.1
    where
      hart_of_list : (hs : List HartValue) (n : ℕ) → n < length hs → (v : HartValue) × (slice_get hs n ≡ Some v)
      hart_of_list [] n low = absurd (omega (arith, low))
      hart_of_list (v ∷ hs) zero low = (v, refl)
      hart_of_list (v ∷ hs) (suc n) low = hart_of_list hs n (omega (arith, low))

  -- after fewer own steps than a bound from the settled start, and those before it
  least_of : (h b : ℕ) → h < length w.harts → AllRun w → ((n : ℕ) → n < b → RunsAfter meant (settled_start habits.section w) h n)
      → IsBound meant w h (b + first_steps habits.section w h) → (n : ℕ) → n < b + first_steps habits.section w h → RunsAfter meant w h n
  least_of h zero low all least bound n less =
      let first = begun_choices habits.section w (λ k. true) (length w.harts) in
      let count = own_start habits w h aligned low in
      absurd (true≢false (sym (start_runs h low all)
      ∙ ap (λ (x : World). runs_in x h) (sym (run_of_begun habits.section w (λ k. true) (length w.harts)))
      ∙ bound first (begun_meant (λ k. true) (length w.harts) (omega arith)) (omega (arith, count))))
  least_of h (suc b) low all least bound n less = runs_later h b n low (least b (omega arith)) (omega (arith, less))

  -- what is said of a hart's own steps from the settled start is so, later by those before it
  pub told_later : (h late : ℕ) (bound : Bound) → h < length w.harts → AllRun w → late ≡ first_steps habits.section w h
      → TellsBound meant (settled_start habits.section w) w late h bound → TellsOwn meant w h (later_by bound (first_steps habits.section w h))
  told_later h late (After b) low all same tells =
      let bound : IsBound meant w h (b + first_steps habits.section w h) = subst (λ n. IsBound meant w h (b + n)) same tells.0 in
      record { bound = bound; least = least_of h b low all tells.1 bound }
  told_later h late Never low all same tells = later_none h low tells
