-- Moves of a session, and the stops that are told: GDB's manual, "Remote Serial Protocol",
-- "Packets" and "Stop Reply Packets".
use Rattle.std.specs.Prelude.{◌≡◌, ℕ, Bool, nat_le, slice_get, Option, Some, None, if◌then◌else◌, []}
use Rattle.hart_step.specs.Hart.{HartValue}
use Rattle.machine.specs.World.{World}
use Rattle.debug_session.specs.Searches.{IsLeastStop, IsGreatestStop}
use Rattle.debug_session.specs.Session.{Session, length_of, moved, reason_at, world_at}
use Rattle.gdb_moves.specs.After.{Alone, steps_alone_from, begin_of, own_choice, passed_of, reason_unless, with_own}
use Rattle.gdb_moves.specs.Moves.{behind_ahead, behind_back}
use Rattle.gdb_moves.specs.Points.{Marked}
use Rattle.gdb_moves.specs.Reasons.{wanted_stop}
use Rattle.gdb_moves.specs.Steps.{step_found, step_alone_found}
use Rattle.gdb_moves.specs.declared.alone_steps.Way.{Way}
use Rattle.gdb_moves.specs.declared.alone_steps.Way.TheVariants.{Forwards, Backwards}
use Rattle.gdb_moves.specs.declared.goal.Goal.{Goal}
use Rattle.gdb_moves.specs.declared.goal.Goal.TheVariants as goal
use Rattle.gdb_moves.specs.declared.stop.AddressRange.{AddressRange}
use Rattle.gdb_moves.specs.declared.stop.StopReason.{StopReason}
use Rattle.gdb_moves.specs.declared.stop.StopReason.TheVariants.{Software, Hardware, Change, Read, Access, Fault, Ready, Done}
use Rattle.gdb_moves.specs.declared.stop.ThreadStop.{ThreadStop}
use Rattle.gdb_moves.specs.declared.stop.Whose.{Whose}
use Rattle.gdb_moves.specs.declared.stop.Whose.TheVariants as whose
use Rattle.gdb_replies.specs.declared.stop.Reason.{Reason}
use Rattle.gdb_replies.specs.declared.stop.Reason.TheVariants as reason
use Rattle.gdb_replies.specs.declared.stop.Signal.{Signal}
use Rattle.gdb_replies.specs.declared.stop.Signal.TheVariants.{Trap}
use Rattle.gdb_replies.specs.declared.stop.Stop.{Stop}
use Rattle.gdb_replies.specs.Stops.{signal_of_cause}
use Rattle.gdb_requests.specs.declared.request.Plain.{Plain}
use Rattle.gdb_requests.specs.declared.request.Plain.TheVariants.{Continue, Step, BackContinue, BackStep}
use Rattle.gdb_session.specs.declared.movement.Move.{Move}
use Rattle.gdb_session.specs.declared.movement.Move.TheVariants as move
use Rattle.gdb_session.specs.declared.selected.Selected.{Selected}
use Rattle.gdb_session.specs.declared.selected.Selected.TheVariants.{All, Any, One}
use Rattle.gdb_session.specs.Harts.{hart_read, selected_or, stopped_hart}
use Rattle.gdb_session.specs.Talk.{TalkValue}

-- the hart that steps: that of `Hc`, else the one that is read
abbrev pub stepping_hart : TalkValue → ℕ
stepping_hart t = selected_or (hart_read t) t.moves

-- whose hits count on the way back: those of the hart of `Hc` alone, if it chose one
abbrev pub whose_hits : Selected → Whose
whose_hits (One hart) = whose.One hart
whose_hits Any = whose.All
whose_hits All = whose.All

-- any step leaves an empty range
abbrev pub no_range : AddressRange
no_range = record { from = 0; to = 0 }

-- the move that a request asks for, if it asks for one
unfoldable pub move_asked : TalkValue → Plain → Option Move
move_asked t Continue = Some (move.Ahead whose.All)
move_asked t Step = Some (move.Step (stepping_hart t) no_range)
move_asked t BackContinue = Some (move.Back (whose_hits t.moves))
move_asked t BackStep = Some (move.StepBack (stepping_hart t) (whose_hits t.moves))
move_asked t other = None

-- the steps alone before a move at a position: those that are kept, or none, which begin there
abbrev pub steps_before : ℕ → Option Alone → Alone
steps_before position None = record { way = Forwards; begin = position; own = [] }
steps_before position (Some a) = a

-- a search of all harts forwards after steps alone stops at position k
abbrev pub EndsAhead : Marked → Alone → Goal → Session → ℕ → Option ThreadStop → Type 0
EndsAhead m a sought s k stop =
    IsLeastStop (reason_unless (passed_of Forwards a)
    (reason_at (wanted_stop m whose.All sought) s)) (begin_of Forwards a s.position) (length_of s)
    (behind_ahead k stop) stop

-- the same of a search back
abbrev pub EndsBack : Marked → Alone → Goal → Session → ℕ → Option ThreadStop → Type 0
EndsBack m a sought s k stop =
    IsGreatestStop (reason_unless (passed_of Backwards a)
    (reason_at (wanted_stop m whose.All sought) s)) (begin_of Backwards a s.position)
    (behind_back k stop) stop

-- a search back for hits of one hart stops at position k
abbrev pub EndsBackAlone : Marked → ℕ → Goal → Session → ℕ → Option ThreadStop → Type 0
EndsBackAlone m hart sought s k stop =
    IsGreatestStop (reason_at (wanted_stop m (whose.One hart) sought) s) s.position
    (behind_back k stop) stop

-- a move of a run after steps alone ends at position k, with this stop if it doesn't end at the
-- list's end or start
unfoldable pub EndsAt : Marked → Alone → Move → Session → ℕ → Option ThreadStop → Type 0
EndsAt m a (move.Ahead whose.All) s k stop = EndsAhead m a goal.Ahead s k stop
EndsAt m a (move.Ahead (whose.One hart)) s k stop =
    IsLeastStop (reason_at (wanted_stop m (whose.One hart) goal.Ahead) s) s.position (length_of s)
    (behind_ahead k stop) stop
EndsAt m a (move.Back whose.All) s k stop = EndsBack m a goal.Back s k stop
EndsAt m a (move.Back (whose.One hart)) s k stop = EndsBackAlone m hart goal.Back s k stop
EndsAt m a (move.Step hart range) s k stop =
    (behind_ahead k stop, stop)
    ≡ step_found m hart range (passed_of Forwards a) (begin_of Forwards a s.position) s
EndsAt m a (move.StepAny range) s k stop = EndsAhead m a (goal.Any range) s k stop
EndsAt m a (move.StepAlone hart range) s k stop =
    (behind_ahead k stop, stop) ≡ step_alone_found m hart range s
EndsAt m a (move.StepBack hart whose.All) s k stop = EndsBack m a (goal.StepBack hart) s k stop
EndsAt m a (move.StepBack hart (whose.One one)) s k stop =
    EndsBackAlone m one (goal.StepBack hart) s k stop

-- the way of a move of one hart alone, if it is kept: forwards, or one step of it forwards or back
unfoldable pub way_kept : Move → Option Way
way_kept (move.Ahead whose.All) = None
way_kept (move.Ahead (whose.One hart)) = Some Forwards
way_kept (move.Back who) = None
way_kept (move.Step hart range) = None
way_kept (move.StepAny range) = None
way_kept (move.StepAlone hart range) = if nat_le range.to range.from then Some Forwards else None
way_kept (move.StepBack hart whose.All) = None
way_kept (move.StepBack hart (whose.One one)) = Some Backwards

-- the own choice of a move of one hart alone that has stopped at a position, if it has one
unfoldable pub own_after : Move → ℕ → Option ThreadStop → Option ℕ
own_after (move.Ahead who) k stop = None
own_after (move.Back who) k stop = None
own_after (move.Step hart range) k stop = None
own_after (move.StepAny range) k stop = None
own_after (move.StepAlone hart range) k stop = own_choice Forwards k stop
own_after (move.StepBack hart who) k stop = own_choice Backwards k stop

-- the steps alone behind one more choice that goes this way from a position, if the move is kept
abbrev pub kept_on : Option Way → Option Alone → ℕ → Option ℕ → Option Alone
kept_on None kept from choice = None
kept_on (Some way) kept from choice = Some (with_own (steps_alone_from way kept from) choice)

-- the steps alone behind a move from one position to another: those before it and its own choice if
-- it goes their way, else that alone; none behind a move that isn't kept
abbrev pub alone_after : Option Alone → Move → ℕ → ℕ → Option ThreadStop → Option Alone
alone_after kept move from to stop = kept_on (way_kept move) kept from (own_after move to stop)

-- the signal of a stop: the fault's, else SIGTRAP
unfoldable pub signal_told : StopReason → Signal
signal_told (Fault cause) = signal_of_cause cause
signal_told other = Trap

-- the reason that is told of a stop, to a GDB that knows `swbreak` or doesn't
unfoldable pub reason_told : Bool → StopReason → Option Reason
reason_told knows Software = if knows then Some reason.SoftwareBreakpoint else None
reason_told knows Hardware = Some reason.HardwareBreakpoint
reason_told knows (Change a) = Some (reason.Write a)
reason_told knows (Read a) = Some (reason.Read a)
reason_told knows (Access a) = Some (reason.Access a)
reason_told knows (Fault cause) = None
reason_told knows Ready = None
reason_told knows Done = None

-- what is told where a move ends without a stop: the list's end, or on the way back its start
unfoldable pub end_told : Move → Reason
end_told (move.Ahead who) = reason.ListEnd
end_told (move.Back who) = reason.ListBegin
end_told (move.Step hart range) = reason.ListEnd
end_told (move.StepAny range) = reason.ListEnd
end_told (move.StepAlone hart range) = reason.ListEnd
end_told (move.StepBack hart who) = reason.ListBegin

-- the hart that is told there: the one that steps, else that of the last stop
unfoldable pub hart_at_end : Option Stop → Move → ℕ
hart_at_end last (move.Ahead who) = stopped_hart last
hart_at_end last (move.Back who) = stopped_hart last
hart_at_end last (move.Step hart range) = hart
hart_at_end last (move.StepAny range) = stopped_hart last
hart_at_end last (move.StepAlone hart range) = hart
hart_at_end last (move.StepBack hart who) = hart

-- a stop of a hart: where it stands, by its x2, x8 and pc; 0 for a hart that isn't there
abbrev pub stop_of : Signal → Option Reason → ℕ → Option HartValue → Stop
stop_of signal why hart None =
    record { signal = signal; hart = hart; sp = 0; s0 = 0; pc = 0; reason = why }
stop_of signal why hart (Some h) = record {
  signal = signal;
  hart = hart;
  sp = h.registers 2;
  s0 = h.registers 8;
  pc = h.pc;
  reason = why;
}

-- the same in a world
abbrev pub stop_in : World → Signal → Option Reason → ℕ → Stop
stop_in w signal why hart = stop_of signal why hart (slice_get w.harts hart)

-- the stop that is told of a move that ends in this world
abbrev pub stop_told : TalkValue → Move → World → Option ThreadStop → Stop
stop_told t move w None = stop_in w Trap (Some (end_told move)) (hart_at_end t.stop move)
stop_told t move w (Some stop) =
    stop_in w (signal_told stop.reason) (reason_told t.software_stops stop.reason) stop.hart

-- the state at position k after a stop, which chooses its hart to read, with these steps alone
abbrev pub stopped_at : TalkValue → ℕ → Option Alone → Stop → TalkValue
stopped_at t k alone stop = record t {
  session = moved t.session k;
  reads = One stop.hart;
  stop = Some stop;
  alone = alone;
}

-- a move leads from one state to another, with this stop if it doesn't end at the list's end or
-- start: the run is at the move's end, the last stop is that which is told, its steps alone are
-- kept or forgotten, and nothing else has changed
abbrev pub Moves : TalkValue → Move → Option ThreadStop → TalkValue → Type 0
Moves t move stop u =
    EndsAt t.points (steps_before t.session.position t.alone) move t.session u.session.position stop
    × (u ≡ stopped_at t u.session.position
    (alone_after t.alone move t.session.position u.session.position stop)
    (stop_told t move (world_at t.session u.session.position) stop))

-- so it does with some stop, or with none
abbrev pub MovesTo : TalkValue → Move → TalkValue → Type 0
MovesTo t move u = (stop : Option ThreadStop) × Moves t move stop u
