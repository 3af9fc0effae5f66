-- What is seen of a choice.
use Rattle.std.specs.Prelude.{ℕ, Bool, true, false, if◌then◌else◌, Option, Some, None, List, slice_get}
use Rattle.hart_step.specs.Hart.{HartValue}
use Rattle.hart_step.specs.declared.data_access.Access.{Access}
use Rattle.hart_step.specs.declared.hart.Cause.{Cause}
use Rattle.hart_step.specs.declared.hart.HartState.{HartState}
use Rattle.hart_step.specs.declared.hart.HartState.TheVariants.{Running, Exited, Faulted}
use Rattle.machine.specs.World.{World, step}
use Rattle.machine.specs.declared.choice.Choice.{Choice}
use Rattle.debug_session.specs.Stops.{has}
use Rattle.debug_session.specs.Touched.{touched, hart_runs}
use Rattle.gdb_moves.specs.Points.{Marked}
use Rattle.gdb_moves.specs.Touches.{word_shown, watch_hit}
use Rattle.gdb_moves.specs.declared.seen.Seen.{Seen}
use Rattle.gdb_moves.specs.declared.stop.StopReason.{StopReason}
use Rattle.gdb_moves.specs.declared.watch.Watch.{Watch}
use Rattle.gdb_moves.specs.declared.stop.StopReason.TheVariants.{Software, Hardware}

-- the address of the next instruction of a hart in a state
abbrev pub next_in : HartState → ℕ → Option ℕ
next_in Running pc = Some pc
next_in (Exited status) pc = None
next_in (Faulted cause) pc = None

-- the address of a hart's next instruction, if it runs
abbrev pub next_pc : Option HartValue → Option ℕ
next_pc None = None
next_pc (Some h) = next_in h.state h.pc

-- the fault of a hart in a state after a step, if it ran before
abbrev pub fault_in : Bool → HartState → Option Cause
fault_in ran Running = None
fault_in ran (Exited status) = None
fault_in ran (Faulted cause) = if ran then Some cause else None

-- the fault of a hart's step
abbrev pub fault_of : Bool → Option HartValue → Option Cause
fault_of ran None = None
fault_of ran (Some h) = fault_in ran h.state

-- the breakpoint at an address, if there is an address; a software one first
abbrev pub break_at : Marked → Option ℕ → Option StopReason
break_at m None = None
break_at m (Some pc) =
    if has m.software pc then Some Software
    else (if has m.hardware pc then Some Hardware else None)

-- the breakpoint at which a hart stands, if it runs
abbrev pub stands_of : Marked → Option HartValue → Option StopReason
stands_of m h = break_at m (next_pc h)

-- the watch that a step with this access hits, if its hart runs after it; `before` and `after` are
-- the bytes of the access's word
abbrev pub touches_in : List Watch → Option HartValue → Option Access → List ℕ → List ℕ
    → Option StopReason
touches_in ws h access before after = if hart_runs h then watch_hit ws access before after else None

-- the watch that choice c hits in a world, if its step does not fault
abbrev pub touches_of : Marked → World → Choice → Option StopReason
touches_of m w c =
    let access = touched w c in
    touches_in m.watches (slice_get (step w c).harts c.hart) access
    (word_shown w.memory access) (word_shown (step w c).memory access)

-- what is seen of choice c in the world before it
unfoldable pub seen_at : Marked → World → Choice → Seen
seen_at m w c = record {
  ran = hart_runs (slice_get w.harts c.hart);
  stands = stands_of m (slice_get w.harts c.hart);
  touches = touches_of m w c;
  fault = fault_of (hart_runs (slice_get w.harts c.hart)) (slice_get (step w c).harts c.hart);
  next = next_pc (slice_get (step w c).harts c.hart);
}
