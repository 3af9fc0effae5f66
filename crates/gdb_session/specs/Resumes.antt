-- The moves that `vCont` asks for: GDB's manual, "Remote Serial Protocol", "Packets".
use Rattle.std.specs.Prelude.{ℕ, Bool, true, false, ◌-◌, ◌==◌, ◌||◌, if◌then◌else◌, List, [], ◌∷◌, Option, Some, None, option_map}
use Rattle.std.specs.List.{list_all, list_any}
use Rattle.std.specs.Option.{is_some, option_or}
use Rattle.gdb_moves.specs.declared.stop.AddressRange.{AddressRange}
use Rattle.gdb_moves.specs.declared.stop.Whose.TheVariants as whose
use Rattle.gdb_requests.specs.declared.request.Action.{Action}
use Rattle.gdb_requests.specs.declared.request.Action.TheVariants.{Continue, Step, Range}
use Rattle.gdb_requests.specs.declared.request.ThreadAction.{ThreadAction}
use Rattle.gdb_requests.specs.declared.request.Threads.{Threads}
use Rattle.gdb_requests.specs.declared.request.Threads.TheVariants.{All, Any, One}
use Rattle.gdb_session.specs.declared.movement.Move.{Move}
use Rattle.gdb_session.specs.declared.movement.Move.TheVariants as move
use Rattle.gdb_session.specs.declared.resume.Stepping.{Stepping}
use Rattle.gdb_session.specs.declared.resume.Stepping.TheVariants as step
use Rattle.gdb_session.specs.Harts.{hart_of_thread, hart_read}
use Rattle.gdb_session.specs.Moves.{no_range}
use Rattle.gdb_session.specs.Talk.{TalkValue, hart_count}

-- whether the thread that an action names is there, if it names one
unfoldable pub is_named_there : ℕ → Option Threads → Bool
is_named_there harts None = true
is_named_there harts (Some All) = true
is_named_there harts (Some Any) = true
is_named_there harts (Some (One thread)) = is_some (hart_of_thread harts thread)

-- whether an action is for all threads
unfoldable pub is_for_all : Option Threads → Bool
is_for_all None = true
is_for_all (Some All) = true
is_for_all (Some Any) = false
is_for_all (Some (One thread)) = false

-- the hart that an action means: that of its thread, else the one that is read
unfoldable pub hart_meant : ℕ → Option Threads → ℕ
hart_meant read None = read
hart_meant read (Some All) = read
hart_meant read (Some Any) = read
hart_meant read (Some (One thread)) = thread - 1

-- whether an action is for a hart
abbrev pub is_for : ℕ → ℕ → ThreadAction → Bool
is_for read hart a = is_for_all a.threads || hart_meant read a.threads == hart

-- the first action for a hart
abbrev pub own_action : ℕ → ℕ → List ThreadAction → Option Action
own_action read hart [] = None
own_action read hart (a ∷ rest) =
    if is_for read hart a then Some a.action else own_action read hart rest

-- the range that an action's step leaves, if it is a step
unfoldable pub step_range : Option Action → Option AddressRange
step_range None = None
step_range (Some Continue) = None
step_range (Some Step) = Some no_range
step_range (Some (Range from to)) = Some (record { from = from; to = to })

-- the step of a hart, if its own action is one
abbrev pub own_step : ℕ → List ThreadAction → ℕ → Option Stepping
own_step read all hart = option_map (step.Hart hart) (step_range (own_action read hart all))

-- the step of any hart, if an action for all is one
abbrev pub any_step : Action → Option Stepping
any_step action = option_map step.Any (step_range (Some action))

-- the step of the first hart that actions mean whose own action is one, before the first action for
-- all; else that of any hart, if this action is one
abbrev pub first_step : ℕ → List ThreadAction → List ThreadAction → Option Stepping
first_step read all [] = None
first_step read all (a ∷ rest) =
    if is_for_all a.threads then any_step a.action
    else option_or (own_step read all (hart_meant read a.threads)) (first_step read all rest)

-- a move by a step, or without one by this hart; a hart moves alone unless an action is for all
abbrev pub resumed : Bool → ℕ → Option Stepping → Move
resumed others hart (Some (step.Any range)) = move.StepAny range
resumed true hart None = move.Ahead whose.All
resumed false hart None = move.Ahead (whose.One hart)
resumed true hart (Some (step.Hart own range)) = move.Step own range
resumed false hart (Some (step.Hart own range)) = move.StepAlone own range

-- the move that actions ask for; none if there is no action, or a thread isn't there
unfoldable pub resume_asked : TalkValue → List ThreadAction → Option Move
resume_asked t [] = None
resume_asked t (a ∷ rest) =
    if list_all (λ (b : ThreadAction). is_named_there (hart_count t) b.threads) (a ∷ rest)
    then Some (resumed (list_any (λ (b : ThreadAction). is_for_all b.threads) (a ∷ rest))
    (hart_meant (hart_read t) a.threads) (first_step (hart_read t) (a ∷ rest) (a ∷ rest)))
    else None
