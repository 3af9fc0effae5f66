-- What the choices of a run did, one after the other.
use Rattle.std.specs.Prelude.{List, [], ◌∷◌}
use Rattle.machine.specs.World.{World, step}
use Rattle.machine.specs.declared.choice.Choice.{Choice}
use Rattle.trace_steps.specs.Told.{told_choice}
use Rattle.trace_steps.specs.declared.told.Told.{Told}

-- what each choice does, in the world that those before it lead to
unfoldable pub tells : World → List Choice → List Told
tells w [] = []
tells w (c ∷ choices) = told_choice w c ∷ tells (step w c) choices
