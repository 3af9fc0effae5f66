-- What fails in a run fails in the place that stands for it.
use Rattle.std.proofs.Common.{◌≡◌, ℕ, zero, suc, ◌<◌, ◌==◌, ltb, eq-eqb, Bool, true, false, ◌||◌, List, [], ◌∷◌, length, get_or, cond, Option, Some, None, refl, ap, sym, ◌∙◌, subst, inl, inr, ◌⊎◌, arith, true≢false}
use Rattle.std.proofs.lemmas.Bool.{cases_Bool, cases_eq, or_right, ne_eqb, lt-ltb}
use Rattle.std.proofs.lemmas.Option.{get_or_from_slice_get, slice_get-get_or}
use Rattle.std.specs.List.{All, Contains, slice_get}
use Rattle.hart_step.specs.Hart.{HartValue}
use Rattle.hart_step.specs.declared.hart.HartState.{HartState}
use Rattle.hart_step.specs.declared.hart.HartState.TheVariants.{Running, Exited, Faulted}
use Rattle.machine.specs.Chosen.{is_chosen}
use Rattle.machine.specs.World.{World}
use Rattle.machine.specs.declared.choice.Choice.{Choice}
use Rattle.object_library.specs.declared.kind.Kind.{Kind}
use Rattle.object_library.specs.declared.kind.Kind.TheVariants.{Swap, Add, LrSc, AdoptCommit, Rounds}
use Rattle.object_library.specs.declared.verdict.Verdict.TheVariants as verdict
use Rattle.machine.specs.Chosen.{chosen}
use Rattle.object_library.specs.Rules.{HasExited, is_exited, is_faulted, value_of, flag_of, IsProposed, KeepsConsensus, KeepsAdoptCommit, KeepsRule}
use Rattle.object_library.specs.Judging.{is_kept}
use Rattle.object_library.proofs.JudgeLemmas.{kept-decides}
use Rattle.outcome.specs.Outcome.{counts, counted}
use Rattle.outcome.specs.declared.run_outcome.End.TheVariants as end
use Rattle.outcome.specs.Expect.{breaks, fails, judged}
use Rattle.outcome.specs.declared.expect.Exit.TheVariants.{May}
use Rattle.machine.specs.World.{step, run}
use Rattle.machine.proofs.RunLaws.{run_length}
use Rattle.explore_laws.specs.Bounds.{not_stopped, runs_in, still_runs}
use Rattle.explore_laws.specs.Covering.{WorldCovers}
use Rattle.explore_laws.specs.Quiet.{AreQuiet}
use Rattle.explore_laws.proofs.StopLemmas.{other_step}
use Rattle.explore_space.specs.Habits.{Habits, quiet_by_habit}
use Rattle.explore_space.proofs.HabitLemmas.{habits_wait}

-- ---- harts that are chosen
at_place : (c : Choice) (choices : List Choice) (k i : ℕ) → i < length (chosen (c ∷ choices)) → get_or (chosen (c ∷ choices)) i k ≡ k
    → (Contains (chosen choices) k → is_chosen choices k ≡ true) → is_chosen (c ∷ choices) k ≡ true
at_place c choices k zero low e later = rw (eq-eqb c.hart k e) refl
at_place c choices k (suc i) low e later = or_right (c.hart == k) (is_chosen choices k) (later (i, omega (arith, low), e))

there_chosen : (choices : List Choice) (k : ℕ) → Contains (chosen choices) k → is_chosen choices k ≡ true
there_chosen [] k p = absurd (let low = p.1 in omega (arith, low))
there_chosen (c ∷ choices) k p = at_place c choices k p.0 p.1 p.2 (there_chosen choices k)

chosen_there : (choices : List Choice) (k : ℕ) → is_chosen choices k ≡ true → Contains (chosen choices) k
chosen_there [] k e = absurd (cc)
chosen_there (c ∷ choices) k e = elim (cases_eq c.hart k) [
  | inl is ↦ (0, omega arith, is)
  | inr off ↦ (let p = chosen_there choices k (rw (ne_eqb c.hart k off) at e) in (suc p.0, (let low = p.1 in omega (arith, low)), p.2))
]

-- ---- harts that have stopped
pub exited_stopped : (s : HartState) → is_exited s ≡ true → not_stopped s ≡ false
exited_stopped Running e = absurd (cc)
exited_stopped (Exited status) e = refl
exited_stopped (Faulted cause) e = refl

pub faulted_stopped : (s : HartState) → is_faulted s ≡ true → not_stopped s ≡ false
faulted_stopped Running e = absurd (cc)
faulted_stopped (Exited status) e = refl
faulted_stopped (Faulted cause) e = refl

-- quiet steps are of harts that run
stopped_stays : (habits : Habits) (w : World) (choices : List Choice) (h : ℕ) → AreQuiet (quiet_by_habit habits) w choices
    → runs_in w h ≡ false → slice_get (run w choices).harts h ≡ slice_get w.harts h
unfolding run
stopped_stays habits w [] h are stopped = refl
stopped_stays habits w (c ∷ choices) h are stopped =
    let other : h ≡ c.hart → ⊥
    = λ e. true≢false (sym ((habits_wait habits).runs w c.hart are.0) ∙ ap (runs_in w) (sym e) ∙ stopped) in
    let same = other_step w c h other in
    stopped_stays habits (step w c) choices h are.1 (ap still_runs same ∙ stopped) ∙ same

-- ---- the harts of a world that another covers
module _ (habits : Habits) (s w : World) (covers : WorldCovers (quiet_by_habit habits) s w) where
  pub covers_count : length s.harts ≡ length w.harts
  covers_count = ap (λ (x : World). length x.harts) (sym covers.leads) ∙ run_length w covers.choices

  same_stopped : (i : ℕ) (d : HartValue) → i < length w.harts → not_stopped (get_or w.harts i d).state ≡ false
      → get_or w.harts i d ≡ get_or s.harts i d
  same_stopped i d low stopped =
      let there : slice_get w.harts i ≡ Some (get_or w.harts i d) = slice_get-get_or w.harts i d low in
      let same : slice_get s.harts i ≡ slice_get w.harts i
      = ap (λ (x : World). slice_get x.harts i) (sym covers.leads)
      ∙ stopped_stays habits w covers.choices i covers.are_quiet (ap still_runs there ∙ stopped) in
      sym (get_or_from_slice_get s.harts i (get_or w.harts i d) d (same ∙ there))

-- each hart that has stopped is the same among others
pub record StopsAlike (others harts : List HartValue) : Type 0 where
  pub count : length others ≡ length harts
  pub exited : (i : ℕ) (d : HartValue) → i < length harts → HasExited (get_or harts i d) → get_or harts i d ≡ get_or others i d
  pub faulted : (i : ℕ) (d : HartValue) → i < length harts → is_faulted (get_or harts i d).state ≡ true
      → get_or harts i d ≡ get_or others i d

pub covered_stops : (habits : Habits) (s w : World) → WorldCovers (quiet_by_habit habits) s w → StopsAlike s.harts w.harts
covered_stops habits s w covers = record {
  count = covers_count habits s w covers;
  exited = λ i d low e. same_stopped habits s w covers i d low (exited_stopped (get_or w.harts i d).state e);
  faulted = λ i d low e. same_stopped habits s w covers i d low (faulted_stopped (get_or w.harts i d).state e);
}

module _ (others harts : List HartValue) (alike : StopsAlike others harts) where
  there_in : (i : ℕ) → i < length harts → i < length others
  there_in i low = let c = alike.count in omega (arith, low, c)

  -- ---- what holds of each hart that has exited
  exited_all : (P : HartValue → Type 0) → All (λ h. HasExited h → P h) others → All (λ h. HasExited h → P h) harts
  exited_all P all i d low e =
      let is = alike.exited i d low e in
      subst P (sym is) (all i d (there_in i low) (subst HasExited is e))

  exited_pairs : (P : HartValue → HartValue → Type 0) → All (λ h. All (λ k. HasExited h → HasExited k → P h k) others) others
      → All (λ h. All (λ k. HasExited h → HasExited k → P h k) harts) harts
  exited_pairs P all i d low j e below one other =
      let a = alike.exited i d low one in
      let b = alike.exited j e below other in
      subst (λ h. P h (get_or harts j e)) (sym a) (subst (P (get_or others i d)) (sym b)
      (all i d (there_in i low) j e (there_in j below) (subst HasExited a one) (subst HasExited b other)))

  none_faulted : All (λ h. is_faulted h.state ≡ false) others → All (λ h. is_faulted h.state ≡ false) harts
  none_faulted all i d low = elim (cases_Bool (is_faulted (get_or harts i d).state)) [
    | inl yes_ ↦
        let is = alike.faulted i d low yes_ in
        absurd (let none = all i d (there_in i low) in let again : is_faulted (get_or others i d).state ≡ true
        = ap (λ (h : HartValue). is_faulted h.state) (sym is) ∙ yes_ in cc)
    | inr no_ ↦ no_
  ]

  -- ---- rules
  module _ (inputs : List ℕ) (a b : List Choice) (fewer : (k : ℕ) → is_chosen a k ≡ true → is_chosen b k ≡ true) where
    moves : (k : ℕ) → Contains (chosen a) k → Contains (chosen b) k
    moves k h = chosen_there b k (fewer k (there_chosen a k h))

    proposed : (v : ℕ) → IsProposed inputs a v → IsProposed inputs b v
    proposed v p = (p.0, moves p.0 p.1, p.2)

    consensus : KeepsConsensus inputs a others → KeepsConsensus inputs b harts
    consensus kept = record {
      valid = λ i d low e. proposed _ (exited_all (λ h. IsProposed inputs a (value_of h)) kept.valid i d low e);
      agreed = exited_pairs (λ h k. value_of h ≡ value_of k) kept.agreed;
      decided = exited_all (λ h. flag_of h ≡ 1) kept.decided;
      sound = none_faulted kept.sound;
    }

    adopt_commit : KeepsAdoptCommit inputs a others → KeepsAdoptCommit inputs b harts
    adopt_commit kept = record {
      valid = λ i d low e. proposed _ (exited_all (λ h. IsProposed inputs a (value_of h)) kept.valid i d low e);
      answered = exited_all (λ h. (flag_of h ≡ 0) ⊎ (flag_of h ≡ 1)) kept.answered;
      committed = exited_pairs (λ h k. flag_of h ≡ 1 → value_of h ≡ value_of k) kept.committed;
      convergent = λ same. exited_all (λ h. flag_of h ≡ 1) (kept.convergent (λ j k x y. same j k (moves j x) (moves k y)));
      sound = none_faulted kept.sound;
    }

    keeps : (kind : Kind) → KeepsRule kind inputs a others → KeepsRule kind inputs b harts
    keeps Swap kept = consensus kept
    keeps Add kept = consensus kept
    keeps LrSc kept = consensus kept
    keeps AdoptCommit kept = adopt_commit kept
    keeps Rounds kept = adopt_commit kept

-- ---- faults are counted
counted_none : (hs : List HartValue) → All (λ h. is_faulted h.state ≡ false) hs → counted end.Faulted hs ≡ 0
counted_none [] all = refl
counted_none (h ∷ hs) all =
    let here = one h.state (all 0 h (omega arith)) in
    let later = counted_none hs (λ i d low. all (suc i) d (omega (arith, low))) in
    omega (arith, here, later)
  where
    one : (s : HartState) → is_faulted s ≡ false → counts end.Faulted s ≡ 0
    one Running e = refl
    one (Exited status) e = refl
    one (Faulted cause) e = absurd (cc)

none_counted : (hs : List HartValue) → counted end.Faulted hs ≡ 0 → All (λ h. is_faulted h.state ≡ false) hs
none_counted [] none i d low = absurd (omega (arith, low))
none_counted (h ∷ hs) none zero d low = one h.state (omega (arith, none))
  where
    one : (s : HartState) → counts end.Faulted s ≡ 0 → is_faulted s ≡ false
    one Running e = refl
    one (Exited status) e = refl
    one (Faulted cause) e = absurd (omega (arith, e))
none_counted (h ∷ hs) none (suc i) d low = none_counted hs (omega (arith, none)) i d (omega (arith, low))

-- ---- a place that hasn't failed stands for no run that has
none_above : (n : ℕ) → ltb 0 n || false ≡ false → n ≡ 0
none_above zero e = refl
none_above (suc n) e = absurd (let no_ : true || false ≡ false = ap (λ b. b || false) (sym (lt-ltb 0 (suc n) (omega arith))) ∙ e in cc)

pub not_broken : (b : Bool) → breaks (Some (cond b verdict.Kept verdict.Broken)) || false ≡ false → b ≡ true
not_broken true e = refl
not_broken false e = absurd (cc)

pub passes : (rule : Option Kind) (inputs : List ℕ) (others harts : List HartValue) (a b : List Choice) → StopsAlike others harts
    → ((k : ℕ) → is_chosen a k ≡ true → is_chosen b k ≡ true) → fails May (judged rule inputs a others) ≡ false
    → fails May (judged rule inputs b harts) ≡ false
passes None inputs others harts a b alike fewer good =
    ap (λ n. ltb 0 n || false)
    (counted_none harts (none_faulted others harts alike (none_counted others (none_above (counted end.Faulted others) good))))
passes (Some kind) inputs others harts a b alike fewer good =
    let kept : is_kept kind inputs a others ≡ true = not_broken (is_kept kind inputs a others) good in
    let rule_kept = keeps others harts alike inputs a b fewer kind ((kept-decides kind inputs a others).0 kept) in
    ap (λ k. breaks (Some (cond k verdict.Kept verdict.Broken)) || false) ((kept-decides kind inputs b harts).1 rule_kept)
