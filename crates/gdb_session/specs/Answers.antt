-- What a session with GDB answers to each request that moves nothing, and the state after it: GDB's
-- manual, "Remote Serial Protocol", "Packets" and "General Query Packets".
use Rattle.std.specs.Prelude.{ℕ, zero, suc, ◌==◌, nat_lt, List, [], map, length, slice_get, Option, Some, None, false, if◌then◌else◌}
use Rattle.std.specs.List.{range_with_len}
use Rattle.hart_step.specs.Hart.{HartValue}
use Rattle.gdb_requests.specs.declared.request.Plain.{Plain}
use Rattle.gdb_requests.specs.declared.request.Plain.TheVariants.{Supported, NoAcks, Reason, Target, ThreadList, FirstThreads, MoreThreads, ThreadState, CurrentThread, Attached, Symbols, ReadThread, MoveThreads, IsThere, Registers as AllRegisters, Register, Memory, Insert, Remove, Actions, Continue, Step, BackContinue, BackStep, Write, Detach, Kill}
use Rattle.gdb_moves.specs.Points.{marked_with, marked_without}
use Rattle.gdb_replies.specs.declared.fixed.FixedReply.TheVariants as fixed
use Rattle.gdb_replies.specs.declared.stop.Stop.{Stop}
use Rattle.gdb_replies.specs.Digits.{bytes_text, low_first_text, registers_text}
use Rattle.gdb_replies.specs.Fixed.{fixed_text}
use Rattle.gdb_replies.specs.Pieces.{piece_text}
use Rattle.gdb_replies.specs.Stops.{stop_reply}
use Rattle.gdb_replies.specs.Target.{target_text}
use Rattle.gdb_replies.specs.Threads.{current_thread, thread_list, thread_numbers, thread_state_text}
use Rattle.gdb_session.specs.declared.answer.Next.{Next}
use Rattle.gdb_session.specs.declared.answer.Next.TheVariants as next
use Rattle.gdb_session.specs.declared.selected.Selected.{Selected}
use Rattle.gdb_session.specs.Harts.{hart_of_thread, hart_read, selected_harts}
use Rattle.gdb_session.specs.Memory.{memory_text}
use Rattle.gdb_session.specs.Talk.{TalkValue, world_seen, harts_seen, hart_count}

-- `OK` if what is named is there, else E01
abbrev pub done_if : {X : Type 0} → Option X → List ℕ
done_if None = fixed_text fixed.BadOperand
done_if (Some named) = fixed_text fixed.Done

-- the registers x0 to x31 and the pc of a hart
abbrev pub all_registers_text : HartValue → List ℕ
all_registers_text h = registers_text (map h.registers (range_with_len 0 32)) h.pc

-- the same of a hart that may not be there; then E01
abbrev pub hart_registers_text : Option HartValue → List ℕ
hart_registers_text None = fixed_text fixed.BadOperand
hart_registers_text (Some h) = all_registers_text h

-- register r of a hart: x0 to x31 are 0 to 31, and the pc is 32; E01 for any other
abbrev pub numbered_register_text : ℕ → HartValue → List ℕ
numbered_register_text r h =
    if nat_lt r 32 then low_first_text (h.registers r)
    else (if r == 32 then low_first_text h.pc else fixed_text fixed.BadOperand)

-- the same of a hart that may not be there
abbrev pub hart_register_text : ℕ → Option HartValue → List ℕ
hart_register_text r None = fixed_text fixed.BadOperand
hart_register_text r (Some h) = numbered_register_text r h

-- the last stop; before any, that thread 1 stands
abbrev pub last_stop_text : Option Stop → List ℕ
last_stop_text None = fixed_text fixed.FirstStop
last_stop_text (Some stop) = stop_reply stop

-- what is said of a hart, in digits
abbrev pub hart_state_text : Option HartValue → List ℕ
hart_state_text None = fixed_text fixed.BadOperand
hart_state_text (Some h) = bytes_text (thread_state_text h.state)

-- a piece of a text; E01 for one from behind the end
abbrev pub part_text : List ℕ → ℕ → ℕ → List ℕ
part_text whole from n =
    if nat_lt (length whole) from then fixed_text fixed.BadOperand else piece_text whole from n

-- the hart of a thread
abbrev pub thread_hart : TalkValue → ℕ → Option HartValue
thread_hart t zero = None
thread_hart t (suc hart) = slice_get (harts_seen t) hart

-- the answer; moves and `k` have none here
unfoldable pub answer_text : TalkValue → Plain → List ℕ
answer_text t (Supported knows) = fixed_text fixed.Features
answer_text t NoAcks = fixed_text fixed.Done
answer_text t Reason = last_stop_text t.stop
answer_text t (Target from n) = part_text target_text from n
answer_text t (ThreadList from n) = part_text (thread_list (harts_seen t)) from n
answer_text t FirstThreads = thread_numbers (hart_count t)
answer_text t MoreThreads = fixed_text fixed.EndOfThreads
answer_text t (ThreadState thread) = hart_state_text (thread_hart t thread)
answer_text t CurrentThread = current_thread (hart_read t)
answer_text t Attached = fixed_text fixed.Attached
answer_text t Symbols = fixed_text fixed.Done
answer_text t (ReadThread threads) = done_if (selected_harts (hart_count t) threads)
answer_text t (MoveThreads threads) = done_if (selected_harts (hart_count t) threads)
answer_text t (IsThere thread) = done_if (hart_of_thread (hart_count t) thread)
answer_text t AllRegisters = hart_registers_text (slice_get (harts_seen t) (hart_read t))
answer_text t (Register r) = hart_register_text r (slice_get (harts_seen t) (hart_read t))
answer_text t (Memory a n) = memory_text (world_seen t).memory a n
answer_text t (Insert p) = fixed_text fixed.Done
answer_text t (Remove p) = fixed_text fixed.Done
answer_text t Actions = fixed_text fixed.Actions
answer_text t Continue = []
answer_text t Step = []
answer_text t BackContinue = []
answer_text t BackStep = []
answer_text t Write = fixed_text fixed.ReadOnly
answer_text t Detach = fixed_text fixed.Done
answer_text t Kill = []

-- the state with other harts chosen, to read or to move
abbrev pub reading_harts : TalkValue → Option Selected → TalkValue
reading_harts t None = t
reading_harts t (Some harts) = record t { reads = harts }

abbrev pub moving_harts : TalkValue → Option Selected → TalkValue
moving_harts t None = t
moving_harts t (Some harts) = record t { moves = harts }

-- the state after the answer
unfoldable pub after_answer : TalkValue → Plain → TalkValue
after_answer t (Supported knows) = record t { software_stops = knows }
after_answer t NoAcks = record t { acknowledges = false }
after_answer t (ReadThread threads) = reading_harts t (selected_harts (hart_count t) threads)
after_answer t (MoveThreads threads) = moving_harts t (selected_harts (hart_count t) threads)
after_answer t (Insert p) = record t { points = marked_with t.points p }
after_answer t (Remove p) = record t { points = marked_without t.points p }
after_answer t other = t

-- what comes after a request
unfoldable pub next_after : Plain → Next
next_after Continue = next.Move
next_after Step = next.Move
next_after BackContinue = next.Move
next_after BackStep = next.Move
next_after Detach = next.Detached
next_after Kill = next.Killed
next_after other = next.Answered
