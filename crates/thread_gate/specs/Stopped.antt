-- Harts that have stopped.
use Rattle.std.specs.Prelude.{Bool, true, false}
use Rattle.hart_step.specs.declared.hart.HartState.{HartState}
use Rattle.hart_step.specs.declared.hart.HartState.TheVariants.{Running, Exited, Faulted}

-- whether a hart in this state has exited or faulted
abbrev pub is_stopped : HartState → Bool
is_stopped Running = false
is_stopped (Exited status) = true
is_stopped (Faulted cause) = true
