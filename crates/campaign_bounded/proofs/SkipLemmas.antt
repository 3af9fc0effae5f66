-- Schedules that are left out.
use Rattle.std.proofs.Common.{◌≡◌, ℕ, zero, suc, ◌+◌, ◌≤◌, List, [], ◌∷◌, Option, Some, None, drop, length, refl, arith, ap, sym, ◌∙◌, subst}
use Rattle.mem_store.specs.Memory.{Memory}
use Rattle.campaign_bounded.specs.Walk.{Led, led_of}
use Rattle.campaign_bounded.specs.Spots.{GivesNext}
use Rattle.campaign_bounded.specs.declared.schedule.Schedule.{Schedule}

none_one : (x : Led) (new : List Led) → [] ≡ x ∷ new → ⊥
none_one x new e = let n = ap length e in omega (arith, n)

rest_of : List Led → List Led
rest_of [] = []
rest_of (x ∷ more) = more

dropped_more : (first : List Led) (done : ℕ) (x : Led) (new : List Led) → drop done first ≡ x ∷ new → new ≡ drop (suc done) first
unfolding rest_of
dropped_more [] zero x new e = absurd (none_one x new e)
dropped_more [] (suc done) x new e = absurd (none_one x new e)
dropped_more (y ∷ first) zero x new e = sym (ap rest_of e)
dropped_more (y ∷ first) (suc done) x new e = dropped_more first done x new e

dropped_all : (first : List Led) (done count : ℕ) → done ≤ count → drop done first ≡ [] → drop count first ≡ []
dropped_all [] done zero within e = refl
dropped_all [] done (suc count) within e = refl
dropped_all (y ∷ first) zero count within e = absurd (none_one y first (sym e))
dropped_all (y ∷ first) (suc done) zero within e = absurd (omega (arith, within))
dropped_all (y ∷ first) (suc done) (suc count) within e = dropped_all first done count (omega (arith, within)) e

module _ {S Z : Type 0} (memory : S → Memory) (next : Option (Schedule S Z)) (done : ℕ) (first old new : List Led) where
  -- one was left, and is left out
  pub skipped_one : (schedule : Schedule S Z) → next ≡ Some schedule → GivesNext memory next old new → old ≡ drop done first
      → new ≡ drop (done + 1) first
  skipped_one schedule is gives so_far =
      let given : old ≡ led_of memory schedule ∷ new = subst (λ o. GivesNext memory o old new) is gives in
      let e : done + 1 ≡ suc done = omega arith in
      dropped_more first done (led_of memory schedule) new (sym so_far ∙ given) ∙ ap (λ n. drop n first) (sym e)

  -- none was left
  pub skipped_all : (count : ℕ) → next ≡ None → GivesNext memory next old new → old ≡ drop done first → done ≤ count
      → new ≡ drop count first
  skipped_all count is gives so_far within =
      let given : (old ≡ []) × (new ≡ []) = subst (λ o. GivesNext memory o old new) is gives in
      given.1 ∙ sym (dropped_all first done count within (sym so_far ∙ given.0))
