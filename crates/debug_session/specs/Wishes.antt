-- What a search looks for.
use Rattle.std.specs.Prelude.{Option, Some, None}
use Rattle.machine.specs.World.{World}
use Rattle.machine.specs.declared.choice.Choice.{Choice}

-- a reason to stop at a choice in the world before it, if there is one
abbrev pub Wish : Type 0 → Type 0
Wish R = World → Choice → Option R

-- the reason at a choice, if there is such a choice
abbrev pub reason_on : {R : Type 0} → Wish R → World → Option Choice → Option R
reason_on wish w None = None
reason_on wish w (Some c) = wish w c
