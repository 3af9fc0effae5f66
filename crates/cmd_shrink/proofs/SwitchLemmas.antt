-- Switches from a choice on.
use Rattle.std.proofs.Common.{◌≡◌, ℕ, zero, suc, ◌+◌, ◌-◌, ◌<◌, ◌≤◌, ◌==◌, cond, List, [], ◌∷◌, length, get_or, drop, eq-eqb, eqb-true, true, false, Bool, refl, sym, ◌∙◌, arith}
use Rattle.machine.specs.declared.choice.Choice.{Choice}
use Rattle.cmd_shrink.specs.Switches.{switches}

from_choice : (k : ℕ) (d e : Choice) (list : List Choice) → suc k < length list
    → switches (drop k list) ≡ cond ((get_or list (suc k) d).hart == (get_or list k e).hart) 0 1 + switches (drop (suc k) list)
unfolding switches
from_choice k d e [] there = absurd (omega (arith, there))
from_choice zero d e (c ∷ []) there = absurd (omega (arith, there))
from_choice zero d e (c ∷ (n ∷ list)) there = refl
from_choice (suc k) d e (c ∷ list) there = from_choice k d e list (omega (arith, there))

-- those from the choice before on
pub switches-before : (at : ℕ) (d e : Choice) (list : List Choice) → 0 < at → at < length list
    → switches (drop (at - 1) list) ≡ cond ((get_or list at d).hart == (get_or list (at - 1) e).hart) 0 1 + switches (drop at list)
switches-before zero d e list some there = absurd (omega (arith, some))
switches-before (suc k) d e list some there = let one : suc k - 1 ≡ k = omega arith in rw one (from_choice k d e list there)

module _ (at : ℕ) (d e : Choice) (list : List Choice) where
  -- no switch to a choice of the same hart
  pub switch_none : 0 < at → at < length list → (get_or list at d).hart ≡ (get_or list (at - 1) e).hart
      → 0 + switches (drop at list) ≡ switches (drop (at - 1) list)
  switch_none some there same =
      let is = eq-eqb (get_or list at d).hart (get_or list (at - 1) e).hart same in
      sym (switches-before at d e list some there ∙ rw is refl)

  -- one switch to a choice of another
  pub switch_one : 0 < at → at < length list → ((get_or list at d).hart ≡ (get_or list (at - 1) e).hart → ⊥)
      → 1 + switches (drop at list) ≡ switches (drop (at - 1) list)
  switch_one some there differs = by ((get_or list at d).hart == (get_or list (at - 1) e).hart) refl
    where
      by : (b : Bool) → ((get_or list at d).hart == (get_or list (at - 1) e).hart) ≡ b → 1 + switches (drop at list) ≡ switches (drop (at - 1) list)
      by true is = absurd (differs (eqb-true (get_or list at d).hart (get_or list (at - 1) e).hart is))
      by false is = sym (switches-before at d e list some there ∙ rw is refl)

-- there are none from the last choice on
pub switches-last : (k : ℕ) (list : List Choice) → length list ≤ suc k → switches (drop k list) ≡ 0
unfolding switches
switches-last zero [] past = refl
switches-last (suc k) [] past = refl
switches-last zero (c ∷ []) past = refl
switches-last zero (c ∷ (n ∷ list)) past = absurd (omega (arith, past))
switches-last (suc k) (c ∷ list) past = switches-last k list (omega (arith, past))
