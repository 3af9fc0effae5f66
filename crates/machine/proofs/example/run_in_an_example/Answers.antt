use Rattle.std.proofs.Common.{refl}
use Rattle.hart_step.specs.Examples.{decoded}
use Rattle.mem_store.specs.Image.{segments_memory}
use Rattle.hart_step.specs.Step.{stepped}
use Rattle.machine.specs.World.{step, run}
use Rattle.machine.specs.Start.{started}
use Rattle.machine.proofs.example.run_in_an_example.Goals as goal

pub returns-clause-statuses : goal.returns-clause-statuses
unfolding started segments_memory run step stepped decoded
returns-clause-statuses c = refl

pub returns-clause-inputs : goal.returns-clause-inputs
unfolding started segments_memory run step stepped decoded
returns-clause-inputs c = refl
