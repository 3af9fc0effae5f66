-- How many own steps a hart takes at most, over all lists of choices.
use Rattle.std.specs.Prelude.{◌≡◌, ℕ, ◌<◌, ◌≤◌, Bool, true, false, List, Option, Some, None, slice_get}
use Rattle.std.specs.List.{All, Contains}
use Rattle.hart_step.specs.Hart.{HartValue}
use Rattle.hart_step.specs.declared.hart.HartState.{HartState}
use Rattle.hart_step.specs.declared.hart.HartState.TheVariants.{Running, Exited, Faulted}
use Rattle.machine.specs.Chosen.{own}
use Rattle.machine.specs.World.{World, run}
use Rattle.machine.specs.declared.choice.Choice.{Choice}

-- whether a hart in this state has not stopped
abbrev pub not_stopped : HartState → Bool
not_stopped Running = true
not_stopped (Exited status) = false
not_stopped (Faulted cause) = false

-- whether there is a hart, and it still runs
abbrev pub still_runs : Option HartValue → Bool
still_runs None = false
still_runs (Some v) = not_stopped v.state

-- whether hart h runs in a world
abbrev pub runs_in : World → ℕ → Bool
runs_in w h = still_runs (slice_get w.harts h)

-- some list of meant choices chooses hart h at least n times, and it still runs
pub record RunsAfter (meant : List Choice) (first : World) (h n : ℕ) : Type 0 where
  pub choices : List Choice
  pub are_meant : All (Contains meant) choices
  pub often : n ≤ own choices h
  pub runs : runs_in (run first choices) h ≡ true

-- hart h has stopped after b own steps: it doesn't run after any list of meant choices that chooses
-- it at least b times
abbrev pub IsBound : List Choice → World → ℕ → ℕ → Type 0
IsBound meant first h b =
    (choices : List Choice) → All (Contains meant) choices → b ≤ own choices h
    → runs_in (run first choices) h ≡ false

-- and b is the least such number: after fewer own steps the hart may still run
pub record IsExactBound (meant : List Choice) (first : World) (h b : ℕ) : Type 0 where
  pub bound : IsBound meant first h b
  pub least : (n : ℕ) → n < b → RunsAfter meant first h n

-- hart h has no bound: after any number of own steps it may still run
abbrev pub HasNoBound : List Choice → World → ℕ → Type 0
HasNoBound meant first h = (n : ℕ) → RunsAfter meant first h n
