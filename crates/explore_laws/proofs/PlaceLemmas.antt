-- Which harts were chosen on the way to a place.
use Rattle.std.proofs.Common.{◌≡◌, ℕ, ◌==◌, Bool, true, false, ◌||◌, List, [], ◌∷◌, refl, ◌∙◌}
use Rattle.machine.specs.World.{World}
use Rattle.machine.specs.Chosen.{is_chosen}
use Rattle.machine.specs.declared.choice.Choice.{Choice}
use Rattle.explore_laws.specs.Settling.{Stride}
use Rattle.explore_laws.specs.Places.{Place, place_begun, place_after, place_reached}

or_moves : (a b c : Bool) → a || (b || c) ≡ (b || a) || c
or_moves true true c = refl
or_moves true false c = refl
or_moves false true c = refl
or_moves false false c = refl

or_none : (a : Bool) → a || false ≡ a
or_none true = refl
or_none false = refl

-- turns change no stride
pub stride_reached : (p : Place) (turns : List Choice) → (place_reached p turns).stride ≡ p.stride
unfolding place_reached
stride_reached p [] = refl
stride_reached p (c ∷ turns) = stride_reached (place_after p c) turns

-- the harts that were chosen before, and those of the turns
chosen_from : (p : Place) (turns : List Choice) (k : ℕ) → (place_reached p turns).chosen k ≡ is_chosen turns k || p.chosen k
unfolding place_reached
chosen_from p [] k = refl
chosen_from p (c ∷ turns) k = chosen_from (place_after p c) turns k ∙ or_moves (is_chosen turns k) (c.hart == k) (p.chosen k)

pub chosen_reached : (stride : Stride) (w : World) (turns : List Choice) (k : ℕ)
    → (place_reached (place_begun stride w) turns).chosen k ≡ is_chosen turns k
chosen_reached stride w turns k = chosen_from (place_begun stride w) turns k ∙ or_none (is_chosen turns k)
