-- A hart's quiet steps, and those of others, in either order.
use Rattle.std.proofs.Common.{◌≡◌, ℕ, true, List, [], ◌∷◌, refl, ap, sym, ◌∙◌, inl, inr, arith}
use Rattle.std.proofs.lemmas.Bool.{cases_eq}
use Rattle.machine.specs.Chosen.{own}
use Rattle.machine.specs.World.{World, step, run}
use Rattle.machine.specs.declared.choice.Choice.{Choice}
use Rattle.explore_laws.specs.Quiet.{AreAligned, AreQuiet, CanWait, OfNextStep}
use Rattle.explore_laws.specs.Settling.{Stride}
use Rattle.explore_laws.proofs.CountLemmas.{none_own, one_own}
use Rattle.explore_laws.proofs.QuietLemmas.{IsBehind, aligned_run, by_quiet, step_aligned}

-- quiet steps of others are quiet behind some steps too, and lead to the same world before them
pub record ArePast (quiet : OfNextStep) (w : World) (others choices : List Choice) : Type 0 where
  pub are_quiet : AreQuiet quiet (run w choices) others
  pub leads : run (run w choices) others ≡ run (run w others) choices

-- steps of harts that take none of the others
abbrev pub Apart : List Choice → List Choice → Type 0
Apart others [] = Unit {0}
Apart others (c ∷ choices) = (own others c.hart ≡ 0) × Apart others choices

module _ (quiet clear : OfNextStep) (stride : Stride) (waits : CanWait quiet clear stride) where
  -- a choice of a hart that takes none of the quiet steps is behind them
  pub behind : (w : World) (c : Choice) (others : List Choice) → AreAligned w → AreQuiet quiet w others
      → clear (run w others) c.hart ≡ true → own others c.hart ≡ 0 → IsBehind quiet w c others
  behind w c others aligned are is_clear none = elim (by_quiet quiet clear stride waits w c others aligned are is_clear) [
    | inl of ↦
        let count = of.owned c.hart in
        let one = one_own c [] c.hart refl in
        absurd (omega (arith, count, one, none))
    | inr is ↦ is
  ]

  -- others' quiet steps leave a hart quiet, and its stride as long as it is
  pub quiet_along : (w : World) (others : List Choice) (h : ℕ) → AreAligned w → AreQuiet quiet w others → own others h ≡ 0
      → quiet w h ≡ true → quiet (run w others) h ≡ true
  unfolding run
  quiet_along w [] h aligned are none e = e
  quiet_along w (c ∷ others) h aligned are none e = elim (cases_eq c.hart h) [
    | inl same ↦ absurd (let one = one_own c others h same in omega (arith, one, none))
    | inr other ↦
        quiet_along (step w c) others h (step_aligned w c aligned) are.1 (sym (none_own c others h other) ∙ none)
        (waits.stays w h c aligned (λ s. other (sym s)) e)
  ]

  pub stride_along : (w : World) (others : List Choice) (h : ℕ) → AreAligned w → AreQuiet quiet w others → own others h ≡ 0
      → stride (run w others) h ≡ stride w h
  unfolding run
  stride_along w [] h aligned are none = refl
  stride_along w (c ∷ others) h aligned are none = elim (cases_eq c.hart h) [
    | inl same ↦ absurd (let one = one_own c others h same in omega (arith, one, none))
    | inr other ↦
        stride_along (step w c) others h (step_aligned w c aligned) are.1 (sym (none_own c others h other) ∙ none)
        ∙ waits.paces w c h aligned (λ s. other (sym s)) are.0
  ]

  pub past : (w : World) (others choices : List Choice) → AreAligned w → AreQuiet quiet w others → AreQuiet quiet w choices
      → Apart others choices → ArePast quiet w others choices
  unfolding run
  past w others [] aligned are quiet_too apart = record { are_quiet = are; leads = refl }
  past w others (c ∷ choices) aligned are quiet_too apart =
      let on = step_aligned w c aligned in
      let at : clear (run w others) c.hart ≡ true = waits.is_clear (run w others) c.hart (aligned_run w others aligned)
      (quiet_along w others c.hart aligned are apart.0 quiet_too.0) in
      let is : IsBehind quiet w c others = behind w c others aligned are at apart.0 in
      let more = past (step w c) others choices on is.are_quiet quiet_too.1 apart.1 in
      record { are_quiet = more.are_quiet; leads = more.leads ∙ ap (λ x. run x choices) is.leads }
