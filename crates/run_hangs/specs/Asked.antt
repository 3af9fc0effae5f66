-- Whether a run hangs, where that is asked.
use Rattle.std.specs.Prelude.{ℕ, Bool, Option, Some, None}
use Rattle.machine.specs.World.{World}
use Rattle.run_hangs.specs.Hanging.{hangs_from, steps_for}
use Rattle.run_hangs.specs.declared.asked.Hangs.{Hangs}
use Rattle.run_hangs.specs.declared.asked.Hangs.TheVariants.{Unasked, Asked}

-- whether a run of n harts by so many choices hangs in its last world, if that is asked: for as many
-- further steps as it has choices, and at least 10,000
abbrev pub hangs_if : Hangs → ℕ → ℕ → World → Option Bool
hangs_if Unasked harts choices world = None
hangs_if Asked harts choices world = Some (hangs_from harts (steps_for choices) world)
