-- What an exact bound is.
use Rattle.std.proofs.Common.{◌≡◌, ℕ, ◌+◌, ◌<◌, ◌≤◌, true, List, inl, inr, sym, ◌∙◌, arith, true≢false}
use Rattle.std.proofs.lemmas.Bool.{cases_lt}
use Rattle.std.specs.List.{All, Contains}
use Rattle.machine.specs.Chosen.{own}
use Rattle.machine.specs.World.{World, run}
use Rattle.machine.specs.declared.choice.Choice.{Choice}
use Rattle.explore_laws.specs.Bounds.{runs_in, RunsAfter, IsBound, IsExactBound, HasNoBound}

module _ (meant : List Choice) (first : World) (h : ℕ) where
  -- a list that leaves a hart running chooses it less often than each bound says
  below : (b : ℕ) → IsBound meant first h b → (n : ℕ) → (after : RunsAfter meant first h n) → own after.choices h < b
  below b bound n after = elim (cases_lt (own after.choices h) b) [
    | inl less ↦ less
    | inr past ↦ absurd (true≢false (sym after.runs ∙ bound after.choices after.are_meant past))
  ]

  pub no_bound : (b : ℕ) → IsBound meant first h b → HasNoBound meant first h → ⊥
  no_bound b bound none =
      let after : RunsAfter meant first h b = none b in
      let less = below b bound b after in
      let often = after.often in
      omega (arith, less, often)

  at_most : (a b : ℕ) → IsExactBound meant first h a → IsExactBound meant first h b → a ≤ b
  at_most a b one other = elim (cases_lt b a) [
    | inl less ↦
        let after : RunsAfter meant first h b = one.least b less in
        let low = below b other.bound b after in
        let often = after.often in
        omega (arith, low, often)
    | inr past ↦ past
  ]

  pub one_exact : (a b : ℕ) → IsExactBound meant first h a → IsExactBound meant first h b → a ≡ b
  one_exact a b one other =
      let low = at_most a b one other in
      let high = at_most b a other one in
      omega (arith, low, high)

  pub one_less : (b : ℕ) → IsExactBound meant first h (b + 1)
      → (choices : List Choice) × All (Contains meant) choices × (own choices h ≡ b) × (runs_in (run first choices) h ≡ true)
  one_less b exact =
      let after : RunsAfter meant first h b = exact.least b (omega arith) in
      let less = below (b + 1) exact.bound b after in
      let often = after.often in
      (after.choices, after.are_meant, omega (arith, less, often), after.runs)
