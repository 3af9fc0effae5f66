-- The reasons to stop at a choice.
use Rattle.std.specs.Prelude.{ℕ, Bool, true, ◌&&◌, ◌==◌, nat_le, nat_lt, if◌then◌else◌, Option, Some, None, option_map}
use Rattle.std.specs.Option.{option_or}
use Rattle.debug_session.specs.Wishes.{Wish}
use Rattle.gdb_moves.specs.Points.{Marked}
use Rattle.gdb_moves.specs.Sights.{seen_at}
use Rattle.gdb_moves.specs.declared.goal.Goal.{Goal}
use Rattle.gdb_moves.specs.declared.goal.Goal.TheVariants.{Ahead, Step, Any, Next, Back, StepBack}
use Rattle.gdb_moves.specs.declared.seen.Seen.{Seen}
use Rattle.gdb_moves.specs.declared.stop.AddressRange.{AddressRange}
use Rattle.gdb_moves.specs.declared.stop.StopReason.{StopReason}
use Rattle.gdb_moves.specs.declared.stop.StopReason.TheVariants.{Fault, Ready, Done}
use Rattle.gdb_moves.specs.declared.stop.ThreadStop.{ThreadStop}
use Rattle.gdb_moves.specs.declared.stop.Whose.{Whose}
use Rattle.gdb_moves.specs.declared.stop.Whose.TheVariants.{All, One}

-- whether a hart's hits and faults count
abbrev pub hits_count : Whose → ℕ → Bool
hits_count All h = true
hits_count (One number) h = number == h

-- whether an address is in a range
abbrev pub range_has : AddressRange → ℕ → Bool
range_has r a = nat_le r.from a && nat_lt a r.to

-- the reason to stop on the way forwards: a breakpoint, else a watch, else a fault
abbrev pub ahead : Seen → Option StopReason
ahead s = option_or s.stands (option_or s.touches (option_map Fault s.fault))

-- the reason to stop on the way backwards: a watch, else a breakpoint
abbrev pub behind : Seen → Option StopReason
behind s = option_or s.touches s.stands

-- the reason to stop at a thread's step which leads to this address, or ends the thread
abbrev pub step_reason : AddressRange → Option ℕ → Option StopReason
step_reason range None = Some Done
step_reason range (Some pc) = if range_has range pc then None else Some Ready

-- the reason to stop behind any hart's step which leads to this address, or ends the hart
abbrev pub done_reason : AddressRange → Option ℕ → Option StopReason
done_reason range None = Some Done
done_reason range (Some pc) = if range_has range pc then None else Some Done

-- whether a choice of hart h is a step of the wanted one
abbrev pub steps : ℕ → ℕ → Seen → Bool
steps own h s = own == h && s.ran

-- the reason to stop at a choice of hart h
abbrev pub reason_for : Goal → ℕ → Seen → Option StopReason
reason_for Ahead h s = ahead s
reason_for (Step own range) h s =
    option_or (ahead s) (if steps own h s then step_reason range s.next else None)
reason_for (Any range) h s =
    option_or (ahead s) (if s.ran then done_reason range s.next else None)
reason_for (Next own) h s = if own == h then Some Ready else ahead s
reason_for Back h s = behind s
reason_for (StepBack own) h s =
    option_or (behind s) (if steps own h s then Some Ready else None)

-- a stop of hart h with a reason, if it counts
abbrev pub counted_stop : Whose → ℕ → Option StopReason → Option ThreadStop
counted_stop whose h None = None
counted_stop whose h (Some reason) =
    if hits_count whose h then Some (record { hart = h; reason = reason }) else None

-- the stop at choice c in the world before it, if any
abbrev pub wanted_stop : Marked → Whose → Goal → Wish ThreadStop
wanted_stop m whose goal w c = counted_stop whose c.hart (reason_for goal c.hart (seen_at m w c))
