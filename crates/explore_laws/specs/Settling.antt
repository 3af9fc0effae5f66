-- Steps that a hart takes at once behind the one that is chosen, and the choices that do so.
use Rattle.std.specs.Prelude.{ℕ, List, [], ◌∷◌, ◌++◌}
use Rattle.hart_local.specs.LocalRuns.{plain_choices}
use Rattle.machine.specs.World.{World, step, run}
use Rattle.machine.specs.declared.choice.Choice.{Choice}

-- how many of its next steps a hart of a world takes at once
abbrev pub Stride : Type 0
Stride = World → ℕ → ℕ

-- the world where a hart has taken these
abbrev pub world_settled : Stride → World → ℕ → World
world_settled stride w h = run w (plain_choices h (stride w h))

-- the choices of a turn: the hart's step, and those that it takes at once behind it
abbrev pub turn_choices : Stride → World → Choice → List Choice
turn_choices stride w c = c ∷ plain_choices c.hart (stride (step w c) c.hart)

-- the choices of turns, one after another
unfoldable pub turns_choices : Stride → World → List Choice → List Choice
turns_choices stride w [] = []
turns_choices stride w (c ∷ turns) =
    turn_choices stride w c ++ turns_choices stride (world_settled stride (step w c) c.hart) turns
