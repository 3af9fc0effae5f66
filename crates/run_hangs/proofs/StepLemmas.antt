-- Steps of harts that may not exist, and the number of harts after a run.
use Rattle.std.proofs.Common.{◌≡◌, ℕ, ◌≤◌, List, length, Option, sym, subst, ap, ◌∙◌}
use Rattle.std.proofs.lemmas.Option.{slice_get_past}
use Rattle.hart_step.specs.Hart.{HartValue}
use Rattle.machine.proofs.RunLaws.{run_length}
use Rattle.machine.specs.World.{World, run, step_of, step}
use Rattle.machine.specs.declared.choice.Choice.{Choice}

-- the choice of a hart that doesn't exist changes nothing
pub step_of_nobody : (w : World) (c : Choice) (n : ℕ) → n ≡ length w.harts → n ≤ c.hart → w ≡ step w c
unfolding step
step_of_nobody w c n is past =
    sym (ap (λ (o : Option HartValue). step_of w c o) (slice_get_past w.harts c.hart (subst (λ m. m ≤ c.hart) is past)))

pub harts_stay : (old new : World) (choices : List Choice) (n : ℕ) → new ≡ run old choices → length old.harts ≡ n → length new.harts ≡ n
harts_stay old new choices n is there = ap (λ (v : World). length v.harts) is ∙ run_length old choices ∙ there
