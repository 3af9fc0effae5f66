-- Quiet steps wait: a choice is one of them, or is taken behind them.
use Rattle.std.proofs.Common.{◌≡◌, ℕ, ◌+◌, ◌==◌, Bool, true, List, [], ◌∷◌, ◌++◌, Option, if◌then◌else◌, refl, ap, sym, ◌∙◌, subst, inl, inr, ◌⊎◌, arith}
use Rattle.std.proofs.lemmas.Bool.{cases_eq}
use Rattle.std.specs.List.{slice_get}
use Rattle.hart_step.specs.Hart.{HartValue}
use Rattle.hart_step.specs.Laws.{IsAligned}
use Rattle.hart_step.proofs.HartLemmas.{stepped-aligned}
use Rattle.machine.proofs.RunLaws.{all-run}
use Rattle.machine.specs.Chosen.{own}
use Rattle.machine.specs.World.{World, step, run}
use Rattle.machine.specs.declared.choice.Choice.{Choice}
use Rattle.explore_laws.specs.Covering.{WorldCovers}
use Rattle.explore_laws.specs.Quiet.{AreAligned, AreQuiet, CanWait, OfNextStep}
use Rattle.explore_laws.specs.Settling.{Stride, world_settled}
use Rattle.explore_laws.proofs.CountLemmas.{none_own, one_own}
use Rattle.explore_laws.proofs.ListLemmas.{run_joined}
use Rattle.explore_laws.proofs.StopLemmas.{other_step}

pub quiet_joined : (quiet : OfNextStep) (w : World) (a b : List Choice) → AreQuiet quiet w a → AreQuiet quiet (run w a) b
    → AreQuiet quiet w (a ++ b)
unfolding run
quiet_joined quiet w [] b first second = second
quiet_joined quiet w (c ∷ a) b first second = (first.0, quiet_joined quiet (step w c) a b first.1 second)

-- choices of other harts leave a hart as it is
pub others_run : (w : World) (choices : List Choice) (h : ℕ) → own choices h ≡ 0 → slice_get (run w choices).harts h ≡ slice_get w.harts h
unfolding run
others_run w [] h none = refl
others_run w (c ∷ choices) h none = elim (cases_eq c.hart h) [
  | inl same ↦ absurd (let one = one_own c choices h same in omega (arith, one, none))
  | inr other ↦
      others_run (step w c) choices h (sym (none_own c choices h other) ∙ none)
      ∙ other_step w c h (λ e. other (sym e))
]

-- a choice was one of the quiet steps of a list, and others are left
pub record IsAmong (quiet : OfNextStep) (w : World) (c : Choice) (choices : List Choice) : Type 0 where
  pub left : List Choice
  pub are_quiet : AreQuiet quiet (step w c) left
  pub leads : run (step w c) left ≡ run w choices
  pub owned : (k : ℕ) → own left k + (if c.hart == k then 1 else 0) ≡ own choices k

-- it is none of them: they are quiet behind it too, and lead to where it leads behind them
pub record IsBehind (quiet : OfNextStep) (w : World) (c : Choice) (choices : List Choice) : Type 0 where
  pub are_quiet : AreQuiet quiet (step w c) choices
  pub leads : run (step w c) choices ≡ step (run w choices) c
  pub none : own choices c.hart ≡ 0

pub aligned_run : (w : World) (choices : List Choice) → AreAligned w → AreAligned (run w choices)
aligned_run w choices is = all-run IsAligned stepped-aligned w choices is

pub step_aligned : (w : World) (c : Choice) → AreAligned w → AreAligned (step w c)
unfolding run
step_aligned w c is = aligned_run w (c ∷ []) is

module _ (quiet clear : OfNextStep) (stride : Stride) (waits : CanWait quiet clear stride) where
  -- a hart that is clear behind quiet steps was clear before them
  clear_before : (w : World) (choices : List Choice) (k : ℕ) → AreAligned w → AreQuiet quiet w choices → clear (run w choices) k ≡ true
      → clear w k ≡ true
  unfolding run
  clear_before w [] k is are e = e
  clear_before w (c ∷ choices) k is are e = elim (cases_eq k c.hart) [
    | inl same ↦ ap (clear w) same ∙ waits.is_clear w c.hart is are.0
    | inr other ↦ waits.was_clear w c k is other are.0 (clear_before (step w c) choices k (step_aligned w c is) are.1 e)
  ]

  -- the first of them is the choice's own step
  first_is : (w : World) (d c : Choice) (choices : List Choice) → AreQuiet quiet w (d ∷ choices) → c.hart ≡ d.hart
      → IsAmong quiet w c (d ∷ choices)
  unfolding run
  first_is w d c choices are same =
      let is : step w c ≡ step w d = waits.alike w d c are.0 same in
      record {
        left = choices;
        are_quiet = subst (λ x. AreQuiet quiet x choices) (sym is) are.1;
        leads = ap (λ x. run x choices) is;
        owned = λ k. elim (cases_eq d.hart k) [
          | inl here ↦
              let one = one_own d choices k here in
              let count = one_own c [] k (same ∙ here) in
              omega (arith, one, count)
          | inr other ↦
              let one = none_own d choices k other in
              let count = none_own c [] k (λ e. other (sym same ∙ e)) in
              omega (arith, one, count)
        ];
      }

  more_among : (w : World) (d c : Choice) (choices : List Choice) → quiet (step w c) d.hart ≡ true
      → step (step w d) c ≡ step (step w c) d → IsAmong quiet (step w d) c choices → IsAmong quiet w c (d ∷ choices)
  unfolding run
  more_among w d c choices stays swaps among = record {
    left = d ∷ among.left;
    are_quiet = (stays, subst (λ x. AreQuiet quiet x among.left) swaps among.are_quiet);
    leads = ap (λ x. run x among.left) (sym swaps) ∙ among.leads;
    owned = λ k. (let count = among.owned k in elim (cases_eq d.hart k) [
      | inl here ↦
          let one = one_own d among.left k here in
          let all = one_own d choices k here in
          omega (arith, count, one, all)
      | inr other ↦
          let one = none_own d among.left k other in
          let all = none_own d choices k other in
          omega (arith, count, one, all)
    ]);
  }

  more_behind : (w : World) (d c : Choice) (choices : List Choice) → (d.hart ≡ c.hart → ⊥) → quiet (step w c) d.hart ≡ true
      → step (step w d) c ≡ step (step w c) d → IsBehind quiet (step w d) c choices → IsBehind quiet w c (d ∷ choices)
  unfolding run
  more_behind w d c choices other stays swaps behind = record {
    are_quiet = (stays, subst (λ x. AreQuiet quiet x choices) swaps behind.are_quiet);
    leads = ap (λ x. run x choices) (sym swaps) ∙ behind.leads;
    none = none_own d choices c.hart other ∙ behind.none;
  }

  pub by_quiet : (w : World) (c : Choice) (choices : List Choice) → AreAligned w → AreQuiet quiet w choices
      → clear (run w choices) c.hart ≡ true → IsAmong quiet w c choices ⊎ IsBehind quiet w c choices
  unfolding run
  by_quiet w c [] is are is_clear = inr (record { are_quiet = tt; leads = refl; none = refl })
  by_quiet w c (d ∷ choices) is are is_clear = elim (cases_eq d.hart c.hart) [
    | inl same ↦ inl (first_is w d c choices are (sym same))
    | inr other ↦
        let stays : quiet (step w c) d.hart ≡ true = waits.stays w d.hart c is other are.0 in
        let at_once : clear w c.hart ≡ true = clear_before w (d ∷ choices) c.hart is are is_clear in
        let swaps = waits.swaps w d c is other are.0 at_once in
        elim (by_quiet (step w d) c choices (step_aligned w d is) are.1 is_clear) [
          | inl among ↦ inl (more_among w d c choices stays swaps among)
          | inr behind ↦ inr (more_behind w d c choices other stays swaps behind)
        ]
  ]

  -- ---- worlds that cover others
  pub covers_itself : (w : World) → WorldCovers quiet w w
  unfolding run
  covers_itself w = record { choices = []; are_quiet = tt; leads = refl }

  pub covers_joined : (t s w : World) → WorldCovers quiet t s → WorldCovers quiet s w → WorldCovers quiet t w
  covers_joined t s w ahead behind = record {
    choices = behind.choices ++ ahead.choices;
    are_quiet = quiet_joined quiet w behind.choices ahead.choices behind.are_quiet
        (subst (λ x. AreQuiet quiet x ahead.choices) (sym behind.leads) ahead.are_quiet);
    leads = run_joined w behind.choices ahead.choices ∙ ap (λ x. run x ahead.choices) behind.leads ∙ ahead.leads;
  }

  pub settled_covers : (w : World) (h : ℕ) → AreAligned w → WorldCovers quiet (world_settled stride w h) w
  settled_covers w h is = record { choices = _; are_quiet = waits.strides w h is; leads = refl }
