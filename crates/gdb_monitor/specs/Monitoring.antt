-- The answer of a command, and the session after it.
use Rattle.std.specs.Prelude.{ℕ, ◌+◌, ◌-◌, nat_le, max, min, List, Option, Some, None, string_bytes, codes, if◌then◌else◌}
use Rattle.debug_session.specs.Session.{Session, length_of, moved, world_at}
use Rattle.debug_session.specs.Steps.{shown_steps}
use Rattle.gdb_monitor.specs.Commands.{monitor_command}
use Rattle.gdb_monitor.specs.Texts.{next_position, schedule_text, harts_text}
use Rattle.gdb_monitor.specs.declared.command.Command.{Command}
use Rattle.gdb_monitor.specs.declared.command.Command.TheVariants.{Where, Goto, Forward, Back, Nearby, Schedule, Harts, Help}
use Rattle.gdb_monitor.specs.declared.monitored.Monitored.{Monitored}
use Rattle.gdb_monitor.specs.declared.monitored.Motion.{Motion}
use Rattle.gdb_monitor.specs.declared.monitored.Motion.TheVariants.{Moved, Stayed}

-- the text that is shown, the session after it, and whether that is a move
pub record Monitoring : Type 0 where
  pub text : List ℕ
  pub after : Session
  pub motion : Motion

-- a text is shown, and the session stays as it is
abbrev pub stays_with : List ℕ → Session → Monitoring
stays_with text s = record { text = text; after = s; motion = Stayed }

-- the session has moved to a position, which is shown
abbrev pub moves_to : Session → ℕ → Monitoring
moves_to s k = record { text = next_position s.choices k; after = moved s k; motion = Moved }

-- the steps of the choices from index a to b - 1 are shown
abbrev pub shows_schedule : Session → ℕ → ℕ → Monitoring
shows_schedule s a b = stays_with (schedule_text s.position (shown_steps s a b)) s

-- there is no such position
abbrev pub past_end : Session → Monitoring
past_end s = stays_with (codes "past end\n") s

-- the answer of a command in a session
unfoldable pub obeyed : Session → Command → Monitoring
obeyed s Where = stays_with (next_position s.choices s.position) s
obeyed s (Goto k) = if nat_le k (length_of s) then moves_to s k else past_end s
obeyed s (Forward n) =
    if nat_le n (length_of s - s.position) then moves_to s (s.position + n) else past_end s
obeyed s (Back n) = if nat_le n s.position then moves_to s (s.position - n) else past_end s
obeyed s Nearby = shows_schedule s (s.position - 4) (s.position + min (length_of s - s.position) 8)
obeyed s (Schedule a b) =
    if nat_le (max a b) (length_of s) then shows_schedule s a b else past_end s
obeyed s Harts = stays_with (harts_text (world_at s s.position)) s
obeyed s Help = stays_with (codes "where, goto K, forward [N], back [N], schedule [A B], harts\n") s

-- the answer of a line with this command
abbrev pub obeyed_if : Session → Option Command → Monitoring
obeyed_if s None = stays_with (codes "bad command\n") s
obeyed_if s (Some command) = obeyed s command

-- the answer of a line in a session
abbrev pub monitored : Session → List ℕ → Monitoring
monitored s line = obeyed_if s (monitor_command line)

-- an answer, and the session after it
abbrev pub monitoring : {Z : Type 0} → Monitored Z → Session → Monitoring
monitoring m after = record { text = string_bytes m.text; after = after; motion = m.motion }
