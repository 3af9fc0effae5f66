-- Numbers beside keys, which stay what they are while keys stand for the same places.
use Rattle.std.proofs.Common.{◌≡◌, ℕ, ◌+◌, ◌≤◌, List, Some, sym, ◌∙◌, subst}
use Rattle.std.specs.List.{slice_get}
use Rattle.machine.specs.declared.choice.Choice.{Choice}
use Rattle.explore_laws.specs.Places.{Place, place_after}
use Rattle.explore_laws.specs.OwnSteps.{steps_in_turn, IsNumbered, NumbersFall, HasPath, NumbersAreTaken}

module _ (place later : List ℕ → Place) (keys : List (List ℕ)) (numbers : List ℕ)
    (stays : (k : ℕ) (key : List ℕ) → slice_get keys k ≡ Some key → later key ≡ place key) where
  pub numbered_stays : (p : Place) (n : ℕ) → IsNumbered place keys numbers p n → IsNumbered later keys numbers p n
  numbered_stays p n at = record {
    index = at.index;
    key = at.key;
    there = at.there;
    is = stays at.index at.key at.there ∙ at.is;
    number_is = at.number_is;
  }

  pub falls_stay : (meant : List Choice) (h : ℕ) → NumbersFall meant h place keys numbers → NumbersFall meant h later keys numbers
  falls_stay meant h falls k key n c there number_is meant_c =
      let fall = falls k key n c there number_is meant_c in
      subst
      (λ (p : Place). (m : ℕ) × IsNumbered later keys numbers (place_after p c) m × (steps_in_turn p.stride p.world h c + m ≤ n))
      (sym (stays k key there))
      (fall.0, numbered_stays (place_after (place key) c) fall.0 fall.1, fall.2)

  pub taken_stay : (meant : List Choice) (h : ℕ) → NumbersAreTaken meant h place keys numbers → NumbersAreTaken meant h later keys numbers
  taken_stay meant h taken k key n there number_is =
      subst (λ (p : Place). HasPath meant h p n) (sym (stays k key there)) (taken k key n there number_is)
