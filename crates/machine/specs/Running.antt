-- Which harts run.
use Rattle.std.specs.Prelude.{ℕ, Bool, true, false, List, Option, Some, None, slice_get}
use Rattle.hart_step.specs.Hart.{HartValue}
use Rattle.hart_step.specs.declared.hart.HartState.{HartState}
use Rattle.hart_step.specs.declared.hart.HartState.TheVariants.{Running, Exited, Faulted}

-- whether a hart has not stopped
abbrev pub is_running : HartState → Bool
is_running Running = true
is_running (Exited status) = false
is_running (Faulted cause) = false

abbrev pub goes : Option HartValue → Bool
goes None = false
goes (Some hart) = is_running hart.state

-- whether a hart exists and runs
abbrev pub runs : List HartValue → ℕ → Bool
runs harts number = goes (slice_get harts number)
