-- What a move of all threads looks for after steps of a thread alone.
use Rattle.std.specs.Prelude.{◌≡◌, ◌⊎◌, ℕ, ◌+◌, ◌-◌, Bool, true, false, if◌then◌else◌, Option, Some, None, List, [], ◌∷◌, ◌++◌}
use Rattle.debug_session.specs.Stops.{has}
use Rattle.gdb_moves.specs.declared.alone_steps.AloneSteps.{AloneSteps}
use Rattle.gdb_moves.specs.declared.alone_steps.Way.{Way}
use Rattle.gdb_moves.specs.declared.alone_steps.Way.TheVariants.{Forwards, Backwards}
use Rattle.gdb_moves.specs.declared.stop.StopReason.{StopReason}
use Rattle.gdb_moves.specs.declared.stop.StopReason.TheVariants.{Fault, Ready, Done}
use Rattle.gdb_moves.specs.declared.stop.ThreadStop.{ThreadStop}

-- steps alone: the way that they went, the position at which they began, and the choices that are
-- their own
pub record Alone : Type 0 where
  pub way : Way
  pub begin : ℕ
  pub own : List ℕ

-- the steps of the code as contracts see them
abbrev pub alone_of : {Z : Type 0} → AloneSteps Z → Alone
alone_of a = record { way = a.way; begin = a.begin; own = a.own.items }

-- whether two ways are the same
abbrev pub same_way : Way → Way → Bool
same_way Forwards Forwards = true
same_way Backwards Backwards = true
same_way one other = false

-- where a move of all threads begins that is made at a position
abbrev pub begin_of : Way → Alone → ℕ → ℕ
begin_of way a position = if same_way way a.way then a.begin else position

-- the steps alone that go on a way at a position: those that are kept if they went that way, else
-- none yet
abbrev pub steps_alone_from : Way → Option Alone → ℕ → Alone
steps_alone_from way None position = record { way = way; begin = position; own = [] }
steps_alone_from way (Some a) position =
    if same_way way a.way then a else record { way = way; begin = position; own = [] }

-- the choices that it passes
abbrev pub passed_of : Way → Alone → List ℕ
passed_of way a = if same_way way a.way then a.own else []

-- the same by the reason of the stop
abbrev own_of : Way → ℕ → StopReason → Option ℕ
own_of Forwards position Done = Some (position - 1)
own_of Forwards position (Fault cause) = Some (position - 1)
own_of Backwards position Ready = Some position
own_of way position other = None

-- the own choice of a step alone that has stopped at a position, if it has one: a step forwards
-- stands behind it, one backwards before it
abbrev pub own_choice : Way → ℕ → Option ThreadStop → Option ℕ
own_choice way position None = None
own_choice way position (Some stop) = own_of way position stop.reason

-- steps alone with one more own choice, if there is one
abbrev pub with_own : Alone → Option ℕ → Alone
with_own a None = a
with_own a (Some choice) = record a { own = a.own ++ choice ∷ [] }

-- the reason to stop at choice i, unless the choice is passed
unfoldable pub reason_unless : {R : Type 0} → List ℕ → (ℕ → Option R) → ℕ → Option R
reason_unless passed reason i = if has passed i then None else reason i

-- choice i has no reason to stop, or it is the one behind which k choices are done, and its reason
-- is that of the stop
abbrev pub IsStopOrNone : {R : Type 0} → (ℕ → Option R) → ℕ → Option R → ℕ → Type 0
IsStopOrNone reason k stop i = (reason i ≡ None) ⊎ ((i + 1 ≡ k) × (reason i ≡ stop))
