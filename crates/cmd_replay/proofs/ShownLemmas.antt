-- A verdict depends on a history only by which harts it chooses.
use Rattle.std.proofs.Common.{◌≡◌, ℕ, List, Option, Some, None, refl, ap}
use Rattle.hart_step.specs.Hart.{HartValue}
use Rattle.machine.specs.Chosen.{ChooseAlike}
use Rattle.machine.specs.declared.choice.Choice.{Choice}
use Rattle.object_library.specs.declared.kind.Kind.{Kind}
use Rattle.object_library.proofs.ChosenLemmas.{same_verdict}
use Rattle.outcome.specs.Ends.{verdict_on}

pub verdict_alike : (rule : Option Kind) (inputs : List ℕ) (a b : List Choice) (harts : List HartValue) → ChooseAlike a b
    → verdict_on rule inputs a harts ≡ verdict_on rule inputs b harts
verdict_alike None inputs a b harts alike = refl
verdict_alike (Some kind) inputs a b harts alike = ap Some (same_verdict kind inputs a b harts alike)
