-- Stops: GDB's manual, "Remote Serial Protocol", "Stop Reply Packets".
use Rattle.std.specs.Prelude.{ℕ, List, [], ◌∷◌, ◌++◌, codes, Option, Some, None}
use Rattle.hart_step.specs.declared.hart.Cause.{Cause}
use Rattle.hart_step.specs.declared.hart.Cause.TheVariants.{FetchAccess, LoadMisaligned, LoadAccess, StoreMisaligned, StoreAccess, JumpMisaligned, BadCall, Break}
use Rattle.hart_step.specs.declared.hart.Cause.TheVariants as cause
use Rattle.gdb_frames.specs.Frames.{two_digits}
use Rattle.gdb_replies.specs.declared.stop.Reason.{Reason}
use Rattle.gdb_replies.specs.declared.stop.Reason.TheVariants.{SoftwareBreakpoint, HardwareBreakpoint, Write, Read, Access, ListEnd, ListBegin}
use Rattle.gdb_replies.specs.declared.stop.Signal.{Signal}
use Rattle.gdb_replies.specs.declared.stop.Signal.TheVariants.{Illegal, Trap, Bus, Segment, System}
use Rattle.gdb_replies.specs.declared.stop.Stop.{Stop}
use Rattle.gdb_replies.specs.Digits.{low_first_text, number_text}
use Rattle.gdb_replies.specs.Threads.{thread_of}

-- GDB's numbers of SIGILL, SIGTRAP, SIGBUS, SIGSEGV and SIGSYS
unfoldable pub signal_number : Signal → ℕ
signal_number Illegal = 4
signal_number Trap = 5
signal_number Bus = 10
signal_number Segment = 11
signal_number System = 12

-- the signal of a fault
unfoldable pub signal_of_cause : Cause → Signal
signal_of_cause FetchAccess = Segment
signal_of_cause cause.Illegal = Illegal
signal_of_cause LoadMisaligned = Bus
signal_of_cause LoadAccess = Segment
signal_of_cause StoreMisaligned = Bus
signal_of_cause StoreAccess = Segment
signal_of_cause JumpMisaligned = Bus
signal_of_cause BadCall = System
signal_of_cause Break = Trap

-- the address of a watched byte
unfoldable pub at_address : List ℕ → ℕ → List ℕ
at_address name address = name ++ (58 ∷ (number_text address ++ 59 ∷ []))

-- why threads stopped, if more is to be said than the signal
unfoldable pub reason_text : Option Reason → List ℕ
reason_text None = []
reason_text (Some SoftwareBreakpoint) = codes "swbreak:;"
reason_text (Some HardwareBreakpoint) = codes "hwbreak:;"
reason_text (Some (Write address)) = at_address (codes "watch") address
reason_text (Some (Read address)) = at_address (codes "rwatch") address
reason_text (Some (Access address)) = at_address (codes "awatch") address
reason_text (Some ListEnd) = codes "replaylog:end;"
reason_text (Some ListBegin) = codes "replaylog:begin;"

-- a register by its number, in two digits, and its value
unfoldable pub register_pair : List ℕ → ℕ → List ℕ
register_pair number value = number ++ (58 ∷ (low_first_text value ++ 59 ∷ []))

-- the thread of a hart
unfoldable pub thread_pair : ℕ → List ℕ
thread_pair hart = codes "thread:" ++ (number_text (thread_of hart) ++ 59 ∷ [])

-- registers 2, 8 and 32: sp, s0 and pc
unfoldable pub stop_place : Stop → List ℕ
stop_place s = register_pair (codes "02") s.sp
    ++ (register_pair (codes "08") s.s0 ++ register_pair (codes "20") s.pc)

-- `T`, the signal, where the thread stands, its number and the reason
abbrev pub stop_reply : Stop → List ℕ
stop_reply s = 84 ∷ (two_digits (signal_number s.signal)
    ++ (stop_place s ++ (thread_pair s.hart ++ reason_text s.reason)))
