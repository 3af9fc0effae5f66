-- Steps on a hart's own words that are taken one by one.
use Rattle.std.proofs.Common.{◌≡◌, ℕ, zero, suc, ◌+◌, ◌-◌, ◌<◌, ◌≤◌, true, false, cond, List, [], ◌∷◌, ◌++◌, None, refl, ap, sym, ◌∙◌, subst, arith}
use Rattle.std.proofs.lemmas.List.{append_assoc}
use Rattle.std.specs.List.{slice_get}
use Rattle.hart_local.specs.LocalRuns.{plain_choices}
use Rattle.machine.specs.World.{World, step, run}
use Rattle.machine.specs.declared.choice.Choice.{Choice}
use Rattle.explore_laws.specs.Settling.{world_settled}
use Rattle.explore_laws.proofs.ListLemmas.{run_joined, run_more, run_nothing}
use Rattle.explore_sites.specs.Own.{unrefused}
use Rattle.explore_space.specs.Habits.{Habits, local_stride, own_at_once, own_stride, stride_by_habit, takes_own_by, takes_own_step, world_rested}
use Rattle.explore_space.specs.Resting.{resting_steps}
use Rattle.explore_space.proofs.HabitLemmas.{plain_joined}

-- the world where hart h has taken a step and the local steps behind it
abbrev pub own_stepped : Habits → World → ℕ → World
own_stepped habits w h = world_rested habits (step w (unrefused h)) h

-- how many steps these are
abbrev pub own_step_count : Habits → World → ℕ → ℕ
own_step_count habits w h = 1 + local_stride habits (step w (unrefused h)) h

-- the world where it has taken the steps on its own words, n of them at most
abbrev pub own_walked : Habits → ℕ → World → ℕ → World
own_walked habits n w h = run w (plain_choices h (own_stride habits n w h))

run_both : (w : World) (h m n : ℕ) → run w (plain_choices h (m + n)) ≡ run (run w (plain_choices h m)) (plain_choices h n)
run_both w h m n = ap (run w) (plain_joined h m n) ∙ run_joined w (plain_choices h m) (plain_choices h n)

-- a hart of a world has taken some of its steps on own words, of `all` at most, with so many steps,
-- and takes the others from where it is
pub record IsUnderWay (habits : Habits) (h all done count : ℕ) (from here : World) : Type 0 where
  pub low : done ≤ all
  pub leads : own_walked habits (all - done) here h ≡ own_walked habits all from h
  pub steps : count + own_stride habits (all - done) here h ≡ own_stride habits all from h

module _ (habits : Habits) (h : ℕ) where
  -- ---- one step more, or none
  none_taken : (n : ℕ) (w : World) → takes_own_step habits w h ≡ false → own_stride habits n w h ≡ 0
  unfolding own_stride
  none_taken zero w none = refl
  none_taken (suc n) w none =
      ap (λ b. cond b (suc (local_stride habits (step w (unrefused h)) h + own_stride habits n (own_stepped habits w h) h)) 0) none

  one_taken : (n : ℕ) (w : World) → takes_own_step habits w h ≡ true
      → own_stride habits (suc n) w h ≡ suc (local_stride habits (step w (unrefused h)) h + own_stride habits n (own_stepped habits w h) h)
  unfolding own_stride
  one_taken n w own =
      ap (λ b. cond b (suc (local_stride habits (step w (unrefused h)) h + own_stride habits n (own_stepped habits w h) h)) 0) own

  walked_on : (n : ℕ) (w : World) → takes_own_step habits w h ≡ true → own_walked habits (suc n) w h ≡ own_walked habits n (own_stepped habits w h) h
  walked_on n w own =
      let v : World = step w (unrefused h) in
      let first = local_stride habits v h in
      let more = own_stride habits n (own_stepped habits w h) h in
      ap (λ k. run w (plain_choices h k)) (one_taken n w own)
      ∙ run_more w (unrefused h) (plain_choices h (first + more))
      ∙ run_both v h first more

  pub nothing_walked : (w : World) (k : ℕ) → k ≡ 0 → run w (plain_choices h k) ≡ w
  nothing_walked w k none = ap (λ n. run w (plain_choices h n)) none ∙ run_nothing w

  -- a hart that isn't there takes no steps at once
  pub nobody_strides : (w : World) → slice_get w.harts h ≡ None → stride_by_habit habits w h ≡ 0
  nobody_strides w none =
      let rests : local_stride habits w h ≡ 0 = ap (resting_steps habits.section w) none in
      let own : own_stride habits own_at_once (world_rested habits w h) h ≡ 0
      = ap (λ x. own_stride habits own_at_once x h) (nothing_walked w (local_stride habits w h) rests)
      ∙ none_taken own_at_once w (ap (takes_own_by habits w h) none) in
      omega (arith, rests, own)

  -- ---- on the way
  module _ (all : ℕ) (from : World) where
    pub under_none : IsUnderWay habits h all 0 0 from from
    under_none =
        let none : all - 0 ≡ all = omega arith in
        let count : 0 + own_stride habits (all - 0) from h ≡ own_stride habits (all - 0) from h = omega arith in
        record {
          low = omega arith;
          leads = ap (λ n. own_walked habits n from h) none;
          steps = count ∙ ap (λ n. own_stride habits n from h) none;
        }

    pub under_more : (done count : ℕ) (here : World) → done < all → takes_own_step habits here h ≡ true
        → IsUnderWay habits h all done count from here
        → IsUnderWay habits h all (done + 1) (count + own_step_count habits here h) from (own_stepped habits here h)
    under_more done count here less own way =
        let left : all - done ≡ suc (all - (done + 1)) = omega (arith, less) in
        let taken = sym (ap (λ n. own_stride habits n here h) left ∙ one_taken (all - (done + 1)) here own) in
        let before = way.steps in
        record {
          low = omega (arith, less);
          leads = sym (ap (λ n. own_walked habits n here h) left ∙ walked_on (all - (done + 1)) here own) ∙ way.leads;
          steps = omega (arith, taken, before);
        }

    -- none is left to take
    under_over : (done count : ℕ) (here : World) → own_stride habits (all - done) here h ≡ 0 → IsUnderWay habits h all done count from here
        → (here ≡ own_walked habits all from h) × (count ≡ own_stride habits all from h)
    under_over done count here none way =
        let steps = way.steps in
        (sym (nothing_walked here (own_stride habits (all - done) here h) none) ∙ way.leads, omega (arith, none, steps))

    pub under_stops : (done count : ℕ) (here : World) → takes_own_step habits here h ≡ false → IsUnderWay habits h all done count from here
        → (here ≡ own_walked habits all from h) × (count ≡ own_stride habits all from h)
    under_stops done count here stops way = under_over done count here (none_taken (all - done) here stops) way

    pub under_ends : (done count : ℕ) (here : World) → all ≤ done → IsUnderWay habits h all done count from here
        → (here ≡ own_walked habits all from h) × (count ≡ own_stride habits all from h)
    unfolding own_stride
    under_ends done count here past way =
        let low = way.low in
        let none : all - done ≡ 0 = omega (arith, past, low) in
        under_over done count here (ap (λ n. own_stride habits n here h) none) way

  -- ---- the steps that are taken at once
  pub settled_walks : (w : World) → own_walked habits own_at_once (world_rested habits w h) h ≡ world_settled (stride_by_habit habits) w h
  settled_walks w = sym (run_both w h (local_stride habits w h) (own_stride habits own_at_once (world_rested habits w h) h))

-- ---- the choices of these steps
-- a hart has taken local steps, and so many of its steps on own words behind them, and their choices
-- are appended
pub record HasTaken (habits : Habits) (h done : ℕ) (w here : World) (before after : List Choice) : Type 0 where
  pub count : ℕ
  pub way : IsUnderWay habits h own_at_once done count (world_rested habits w h) here
  pub choices : after ≡ before ++ plain_choices h (local_stride habits w h + count)

module _ (habits : Habits) (h : ℕ) (w : World) (before : List Choice) where
  pub taken_none : (after : List Choice) → after ≡ before ++ plain_choices h (local_stride habits w h)
      → (here : World) → here ≡ world_rested habits w h → HasTaken habits h 0 w here before after
  taken_none after appended here is = record {
    count = 0;
    way = subst (IsUnderWay habits h own_at_once 0 0 (world_rested habits w h)) (sym is) (under_none habits h own_at_once (world_rested habits w h));
    choices = (let none : local_stride habits w h ≡ local_stride habits w h + 0 = omega arith in
        appended ∙ ap (λ k. before ++ plain_choices h k) none);
  }

  pub taken_more : (done : ℕ) (here there : World) (after more last : List Choice) → done < own_at_once → takes_own_step habits here h ≡ true
      → HasTaken habits h done w here before after → more ≡ after ++ unrefused h ∷ []
      → last ≡ more ++ plain_choices h (local_stride habits (step here (unrefused h)) h) → there ≡ own_stepped habits here h
      → HasTaken habits h (done + 1) w there before last
  taken_more done here there after more last less own taken one rest is =
      let first = local_stride habits w h in
      let k = local_stride habits (step here (unrefused h)) h in
      let so_far = first + taken.count in
      let all : so_far + suc k ≡ first + (taken.count + (1 + k)) = omega arith in
      record {
        count = taken.count + own_step_count habits here h;
        way = subst (IsUnderWay habits h own_at_once (done + 1) (taken.count + own_step_count habits here h) (world_rested habits w h)) (sym is)
            (under_more habits h own_at_once (world_rested habits w h) done taken.count here less own taken.way);
        choices = rest ∙ ap (λ (cs : List Choice). cs ++ plain_choices h k) one ∙ append_assoc after (unrefused h ∷ []) (plain_choices h k)
            ∙ ap (λ (cs : List Choice). cs ++ plain_choices h (suc k)) taken.choices
            ∙ append_assoc before (plain_choices h so_far) (plain_choices h (suc k))
            ∙ ap (λ (cs : List Choice). before ++ cs) (sym (plain_joined h so_far (suc k)) ∙ ap (plain_choices h) all);
      }

  module _ (done : ℕ) (here : World) (after : List Choice) (taken : HasTaken habits h done w here before after) where
    pub taken_stops : takes_own_step habits here h ≡ false
        → (here ≡ world_settled (stride_by_habit habits) w h) × (after ≡ before ++ plain_choices h (stride_by_habit habits w h))
    taken_stops stops =
        let over = under_stops habits h own_at_once (world_rested habits w h) done taken.count here stops taken.way in
        (over.0 ∙ settled_walks habits h w, taken.choices ∙ ap (λ k. before ++ plain_choices h (local_stride habits w h + k)) over.1)

    pub taken_ends : own_at_once ≤ done
        → (here ≡ world_settled (stride_by_habit habits) w h) × (after ≡ before ++ plain_choices h (stride_by_habit habits w h))
    taken_ends past =
        let over = under_ends habits h own_at_once (world_rested habits w h) done taken.count here past taken.way in
        (over.0 ∙ settled_walks habits h w, taken.choices ∙ ap (λ k. before ++ plain_choices h (local_stride habits w h + k)) over.1)
