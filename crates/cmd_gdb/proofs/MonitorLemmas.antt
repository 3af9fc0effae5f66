-- What a command of `monitor` leaves of a session.
use Rattle.std.proofs.Common.{◌≡◌, ℕ, Bool, true, false, List, Option, Some, None, refl, ap, subst, if◌then◌else◌}
use Rattle.std.specs.Prelude.{◌+◌, ◌-◌, nat_le, max}
use Rattle.debug_session.specs.Session.{Session, length_of, moved}
use Rattle.gdb_monitor.specs.Commands.{monitor_command}
use Rattle.gdb_monitor.specs.Monitoring.{Monitoring, monitored, monitoring, moves_to, obeyed, obeyed_if, past_end, shows_schedule}
use Rattle.gdb_monitor.specs.declared.command.Command.{Command}
use Rattle.gdb_monitor.specs.declared.command.Command.TheVariants.{Where, Goto, Forward, Back, Nearby, Schedule, Harts, Help}
use Rattle.gdb_monitor.specs.declared.monitored.Monitored.{Monitored}

-- a session has only moved
abbrev OnlyMoves : Session → Session → Type 0
OnlyMoves s u = u ≡ moved s u.position

moves_if : (s : Session) (b : Bool) (k : ℕ)
    → OnlyMoves s (if b then moves_to s k else past_end s).after
moves_if s true k = refl
moves_if s false k = refl

shows_if : (s : Session) (b : Bool) (from to : ℕ)
    → OnlyMoves s (if b then shows_schedule s from to else past_end s).after
shows_if s true from to = refl
shows_if s false from to = refl

obeying_moves : (s : Session) (command : Command) → OnlyMoves s (obeyed s command).after
unfolding obeyed
obeying_moves s Where = refl
obeying_moves s (Goto k) = moves_if s (nat_le k (length_of s)) k
obeying_moves s (Forward n) = moves_if s (nat_le n (length_of s - s.position)) (s.position + n)
obeying_moves s (Back n) = moves_if s (nat_le n s.position) (s.position - n)
obeying_moves s Nearby = refl
obeying_moves s (Schedule from to) = shows_if s (nat_le (max from to) (length_of s)) from to
obeying_moves s Harts = refl
obeying_moves s Help = refl

line_moves : (s : Session) (command : Option Command) → OnlyMoves s (obeyed_if s command).after
line_moves s None = refl
line_moves s (Some command) = obeying_moves s command

-- the session after a line has only moved
pub only_moves : {Z : Type 0} (s u : Session) (line : List ℕ) (m : Monitored Z)
    → monitored s line ≡ monitoring m u → u ≡ moved s u.position
only_moves s u line m is =
    subst (OnlyMoves s) (ap (λ (n : Monitoring). n.after) is) (line_moves s (monitor_command line))
