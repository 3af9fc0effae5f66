-- Turns are runs of their choices.
use Rattle.std.proofs.Common.{◌≡◌, ℕ, zero, suc, ◌==◌, Bool, true, false, ◌||◌, List, [], ◌∷◌, ◌++◌, refl, ap, ◌∙◌, sym}
use Rattle.hart_local.specs.LocalRuns.{plain_choices}
use Rattle.machine.specs.Chosen.{is_chosen}
use Rattle.machine.specs.World.{World, step, run}
use Rattle.machine.specs.declared.choice.Choice.{Choice}
use Rattle.explore_laws.specs.Settling.{Stride, world_settled, turn_choices, turns_choices}
use Rattle.explore_laws.specs.Places.{Place, place_begun, place_after, place_reached}
use Rattle.explore_laws.proofs.ListLemmas.{run_joined, run_nothing}
use Rattle.explore_laws.proofs.PlaceLemmas.{chosen_reached}

pub run_of_turn : (stride : Stride) (w : World) (c : Choice) → run w (turn_choices stride w c) ≡ world_settled stride (step w c) c.hart
unfolding run
run_of_turn stride w c = refl

pub turns_from : (p : Place) (turns : List Choice) → run p.world (turns_choices p.stride p.world turns) ≡ (place_reached p turns).world
unfolding place_reached turns_choices
turns_from p [] = run_nothing p.world
turns_from p (c ∷ turns) =
    run_joined p.world (turn_choices p.stride p.world c) (turns_choices p.stride (world_settled p.stride (step p.world c) c.hart) turns)
    ∙ ap (λ x. run x (turns_choices p.stride (world_settled p.stride (step p.world c) c.hart) turns)) (run_of_turn p.stride p.world c)
    ∙ turns_from (place_after p c) turns

pub run_of_turns : (stride : Stride) (w : World) (turns : List Choice)
    → run w (turns_choices stride w turns) ≡ (place_reached (place_begun stride w) turns).world
run_of_turns stride w turns = turns_from (place_begun stride w) turns

or_twice : (a b c : Bool) → a || b ≡ a || c → a || (a || b) ≡ a || c
or_twice true b c e = refl
or_twice false b c e = e

plain_ones : (h n : ℕ) (rest : List Choice) (k : ℕ)
    → (h == k) || is_chosen (plain_choices h n ++ rest) k ≡ (h == k) || is_chosen rest k
plain_ones h zero rest k = refl
plain_ones h (suc n) rest k =
    or_twice (h == k) (is_chosen (plain_choices h n ++ rest) k) (is_chosen rest k) (plain_ones h n rest k)

turns_choose : (stride : Stride) (w : World) (turns : List Choice) (k : ℕ)
    → is_chosen (turns_choices stride w turns) k ≡ is_chosen turns k
unfolding turns_choices
turns_choose stride w [] k = refl
turns_choose stride w (c ∷ turns) k =
    plain_ones c.hart (stride (step w c) c.hart) (turns_choices stride (world_settled stride (step w c) c.hart) turns) k
    ∙ ap (λ b. (c.hart == k) || b) (turns_choose stride (world_settled stride (step w c) c.hart) turns k)

pub chosen_in_turns : (stride : Stride) (w : World) (turns : List Choice) (k : ℕ)
    → is_chosen (turns_choices stride w turns) k ≡ (place_reached (place_begun stride w) turns).chosen k
chosen_in_turns stride w turns k = turns_choose stride w turns k ∙ sym (chosen_reached stride w turns k)
