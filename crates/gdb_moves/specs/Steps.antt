-- Where a step of a thread ends.
use Rattle.std.specs.Prelude.{ℕ, ◌-◌, min, Bool, true, false, if◌then◌else◌, List, Option, Some, None, option_map}
use Rattle.debug_session.specs.Session.{Session, Found, first_found, length_of, next_of, reason_at}
use Rattle.debug_session.specs.Wishes.{Wish}
use Rattle.gdb_moves.specs.After.{reason_unless}
use Rattle.gdb_moves.specs.Points.{Marked}
use Rattle.gdb_moves.specs.Reasons.{wanted_stop}
use Rattle.gdb_moves.specs.declared.goal.Goal.TheVariants.{Step, Next}
use Rattle.gdb_moves.specs.declared.stop.AddressRange.{AddressRange}
use Rattle.gdb_moves.specs.declared.stop.StopReason.{StopReason}
use Rattle.gdb_moves.specs.declared.stop.StopReason.TheVariants.{Ready, Done}
use Rattle.gdb_moves.specs.declared.stop.ThreadStop.{ThreadStop}
use Rattle.gdb_moves.specs.declared.stop.Whose.TheVariants.{All, One}

-- whether a thread's step is done and the thread goes on
abbrev pub is_ready : StopReason → Bool
is_ready Ready = true
is_ready other = false

-- the stop of a thread whose step is done
abbrev pub step_done : ℕ → ThreadStop
step_done hart = record { hart = hart; reason = Done }

-- a stop, or that of a thread whose step is done if there is none
abbrev pub or_done : ℕ → Option ThreadStop → Option ThreadStop
or_done hart None = Some (step_done hart)
or_done hart (Some stop) = Some stop

-- the result of a search forwards, from the choice `from` on, that passes choices; behind the last
-- choice there is none
unfoldable pub first_unless : {R : Type 0} → List ℕ → Wish R → Session → ℕ → Found R
first_unless passed wish s from =
    first_found (reason_unless passed (reason_at wish s)) (min from (length_of s))
    (length_of s - from)

-- what comes behind position k: a thread's next choice, or a hit or fault before it, or the end;
-- choices that are passed don't count
abbrev pub next_choice : Marked → ℕ → List ℕ → Session → ℕ → Found ThreadStop
next_choice m hart passed s k =
    let found = first_unless passed (wanted_stop m All (Next hart)) s k in
    (found.0, or_done hart found.1)

-- where a step goes on to from position k, behind the choice of a stop
abbrev pub then_next : Marked → ℕ → List ℕ → Session → ℕ → Option ThreadStop → Found ThreadStop
then_next m hart passed s k None = (k, None)
then_next m hart passed s k (Some stop) =
    if is_ready stop.reason then next_choice m hart passed s k else (k, Some stop)

-- the end of a step of a thread from the choice `from` on, which passes choices: a position and the
-- stop there, if any
unfoldable pub step_found : Marked → ℕ → AddressRange → List ℕ → ℕ → Session → Found ThreadStop
step_found m hart range passed from s =
    let own = first_unless passed (wanted_stop m All (Step hart range)) s from in
    then_next m hart passed s own.0 own.1

-- the stop of a thread that moves alone: its step is done, whatever comes next
abbrev pub alone_stop : ThreadStop → ThreadStop
alone_stop stop = if is_ready stop.reason then step_done stop.hart else stop

-- the end of a step of a thread alone
unfoldable pub step_alone_found : Marked → ℕ → AddressRange → Session → Found ThreadStop
step_alone_found m hart range s =
    let own = next_of (wanted_stop m (One hart) (Step hart range)) s in
    (own.0, option_map alone_stop own.1)
