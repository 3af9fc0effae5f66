-- When a run hangs.
use Rattle.std.specs.Prelude.{ℕ, max, Bool, ◌&&◌, List, ◌++◌, length}
use Rattle.image.specs.Image.{ImageValue}
use Rattle.mem_store.specs.Memory.{all_below}
use Rattle.machine.specs.Start.{started}
use Rattle.machine.specs.World.{World, run}
use Rattle.machine.specs.declared.choice.Choice.{Choice}
use Rattle.sched_draw.specs.Turns.{alone, turns}
use Rattle.outcome.specs.Outcome.{some_run}

-- some hart runs after further choices
abbrev pub runs_on : World → List Choice → Bool
runs_on world more = some_run (run world more).harts

-- n steps of one hart alone, and then as many of all in turn
abbrev pub alone_first : ℕ → ℕ → ℕ → List Choice
alone_first harts steps hart = alone hart steps ++ turns harts steps

-- a run hangs in its last world: some hart still runs after n further steps of the harts in turn,
-- and also if any one hart takes n steps alone before that
abbrev pub hangs_from : ℕ → ℕ → World → Bool
hangs_from harts steps world =
    runs_on world (turns harts steps)
    && all_below harts (λ hart. runs_on world (alone_first harts steps hart))

-- the run of a list of choices hangs, from an image's start
abbrev pub hangs_after : ℕ → ImageValue → List ℕ → List Choice → Bool
hangs_after steps image inputs choices =
    hangs_from (length inputs) steps (run (started image inputs) choices)

-- the number of further steps, by the number of choices
abbrev pub steps_for : ℕ → ℕ
steps_for choices = max 10000 choices
