-- Paths and rounds, put together from turns.
use Rattle.std.proofs.Common.{◌≡◌, ℕ, ◌+◌, true, false, List, [], ◌∷◌, ◌++◌, refl, ap, subst, arith}
use Rattle.std.proofs.lemmas.List.Elements.{All-nil, All-cons}
use Rattle.std.specs.List.{All, Contains}
use Rattle.machine.specs.World.{World}
use Rattle.machine.specs.declared.choice.Choice.{Choice}
use Rattle.explore_laws.specs.Places.{Place, place_begun, place_after, place_reached}
use Rattle.explore_laws.specs.Bounds.{runs_in, IsExactBound}
use Rattle.explore_laws.specs.OwnSteps.{steps_in_turn, steps_in_turns, HasPlainChoices, IsNumbered, NumbersFall, KeysAreClear, HasPath, NumbersAreTaken, GoesRound}
use Rattle.explore_laws.specs.Quiet.{AreAligned, CanWait, OfNextStep}
use Rattle.explore_laws.specs.Settling.{Stride}
use Rattle.explore_laws.proofs.OwnLemmas.{own_steps}
use Rattle.explore_laws.proofs.BoundLemmas.{numbers_bound}
use Rattle.explore_laws.proofs.RoundLemmas.{path_taken}

-- ---- lists of turns that go on
pub reached_joined : (p : Place) (a b : List Choice) → place_reached p (a ++ b) ≡ place_reached (place_reached p a) b
unfolding place_reached
reached_joined p [] b = refl
reached_joined p (c ∷ a) b = reached_joined (place_after p c) a b

pub steps_joined : (p : Place) (h : ℕ) (a b : List Choice)
    → steps_in_turns p.stride p.world h (a ++ b) ≡ steps_in_turns p.stride p.world h a + steps_in_turns (place_reached p a).stride (place_reached p a).world h b
unfolding place_reached steps_in_turns
steps_joined p h [] b = omega arith
steps_joined p h (c ∷ a) b =
    let more = steps_joined (place_after p c) h a b in
    omega (arith, more)

-- one turn more
pub steps_last : (p : Place) (h : ℕ) (turns : List Choice) (c : Choice)
    → steps_in_turns p.stride p.world h (turns ++ c ∷ []) ≡ steps_in_turns p.stride p.world h turns + steps_in_turn (place_reached p turns).stride (place_reached p turns).world h c
unfolding steps_in_turns
steps_last p h turns c =
    let both = steps_joined p h turns (c ∷ []) in
    omega (arith, both)

-- ---- paths
pub path_none : (meant : List Choice) (h : ℕ) (p : Place) → HasPath meant h p 0
unfolding steps_in_turns
path_none meant h p = record { turns = []; are_meant = All-nil (Contains meant); steps = refl }

-- a turn before a path
pub path_more : (meant : List Choice) (h : ℕ) (p : Place) (c : Choice) (n : ℕ) → Contains meant c → HasPath meant h (place_after p c) n
    → HasPath meant h p (steps_in_turn p.stride p.world h c + n)
unfolding steps_in_turns
path_more meant h p c n meant_c path = record {
  turns = c ∷ path.turns;
  are_meant = All-cons (Contains meant) c path.turns meant_c path.are_meant;
  steps = ap (λ k. steps_in_turn p.stride p.world h c + k) path.steps;
}

-- ---- rounds
-- a turn of a hart that runs, and turns that lead back from behind it
pub round_by_turn : (meant : List Choice) (h : ℕ) (first p : Place) (there : List Choice) (c : Choice) (more : List Choice)
    → All (Contains meant) there → place_reached first there ≡ p → Contains meant c → c.hart ≡ h → runs_in p.world h ≡ true
    → All (Contains meant) more → place_reached (place_after p c) more ≡ p → GoesRound meant h first
unfolding place_reached steps_in_turns
round_by_turn meant h first p there c more there_meant leads meant_c own runs more_meant back =
    let steps = own_steps p.stride p.world h c own runs in
    record {
      place = p;
      there = there;
      there_meant = there_meant;
      leads = leads;
      round = c ∷ more;
      round_meant = All-cons (Contains meant) c more meant_c more_meant;
      back = ap (λ (q : Place). q.world) back;
      steps = omega (arith, steps);
    }

-- ---- numbers that are paths' steps
module _ (quiet clear : OfNextStep) (stride : Stride) (waits : CanWait quiet clear stride)
    (meant : List Choice) (plain : HasPlainChoices meant) (place : List ℕ → Place) (keys : List (List ℕ)) (numbers : List ℕ)
    (are_clear : KeysAreClear clear meant place keys) where
  pub taken_exact : (first : World) (h b : ℕ) → AreAligned first → Contains meant (record { hart = h; refuse = false })
      → NumbersFall meant h place keys numbers → NumbersAreTaken meant h place keys numbers
      → IsNumbered place keys numbers (place_begun stride first) b → IsExactBound meant first h b
  taken_exact first h b is meant_h falls taken at =
      let path : HasPath meant h (place_begun stride first) b
      = subst (λ (p : Place). HasPath meant h p b) at.is (taken at.index at.key b at.there at.number_is) in
      record {
        bound = numbers_bound quiet clear stride waits meant h place keys numbers are_clear falls first b is meant_h at;
        least = λ n less. path_taken quiet clear stride waits meant plain first h b n is path less;
      }
