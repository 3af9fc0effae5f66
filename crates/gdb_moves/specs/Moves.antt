-- Where moves stop.
use Rattle.std.specs.Prelude.{ℕ, ◌+◌, Option, Some, None}
use Rattle.gdb_moves.specs.declared.stop.StopReason.{StopReason}
use Rattle.gdb_moves.specs.declared.stop.StopReason.TheVariants.{Software, Hardware, Change, Read, Access, Fault, Ready, Done}
use Rattle.gdb_moves.specs.declared.stop.ThreadStop.{ThreadStop}

-- the position behind the choice of a stop, if a move forwards that stops for this reason is at p:
-- it stands before a hit and before a thread's next step, and behind a fault
abbrev pub behind_reason : ℕ → StopReason → ℕ
behind_reason p Software = p + 1
behind_reason p Hardware = p + 1
behind_reason p (Change a) = p + 1
behind_reason p (Read a) = p + 1
behind_reason p (Access a) = p + 1
behind_reason p (Fault cause) = p
behind_reason p Ready = p + 1
behind_reason p Done = p

-- the same of a move forwards, which may have come to the end
abbrev pub behind_ahead : ℕ → Option ThreadStop → ℕ
behind_ahead p None = p
behind_ahead p (Some stop) = behind_reason p stop.reason

-- the same if a move backwards is at p: it stands before a breakpoint hit and before a thread's
-- step, and behind a watch hit
abbrev pub past_reason : ℕ → StopReason → ℕ
past_reason p Software = p + 1
past_reason p Hardware = p + 1
past_reason p (Change a) = p
past_reason p (Read a) = p
past_reason p (Access a) = p
past_reason p (Fault cause) = p
past_reason p Ready = p + 1
past_reason p Done = p

-- the same of a move backwards, which may have come to the start
abbrev pub behind_back : ℕ → Option ThreadStop → ℕ
behind_back p None = p
behind_back p (Some stop) = past_reason p stop.reason
