-- Threads: GDB's manual, "Remote Serial Protocol", "General Query Packets", and "Thread List
-- Format".
use Rattle.std.specs.Prelude.{ℕ, zero, suc, ◌+◌, ◌==◌, List, [], ◌∷◌, ◌++◌, codes, decimal, if◌then◌else◌}
use Rattle.std.specs.Int.{to_be_bytes, w32}
use Rattle.hart_step.specs.Hart.{HartValue}
use Rattle.hart_step.specs.declared.hart.HartState.{HartState}
use Rattle.hart_step.specs.declared.hart.HartState.TheVariants.{Running, Exited, Faulted}
use Rattle.outcome.specs.Ends.{cause_name}
use Rattle.gdb_replies.specs.Digits.{bytes_text, number_text}

-- hart h is thread h + 1
abbrev pub thread_of : ℕ → ℕ
thread_of hart = hart + 1

-- the thread at hand
abbrev pub current_thread : ℕ → List ℕ
current_thread hart = codes "QC" ++ number_text (thread_of hart)

-- a hart's thread, behind a comma unless it is the first
unfoldable pub list_item : ℕ → List ℕ
list_item hart = if hart == 0 then number_text (thread_of 0) else 44 ∷ number_text (thread_of hart)

-- the threads of so many harts from one on
abbrev pub thread_items : ℕ → ℕ → List ℕ
thread_items hart zero = []
thread_items hart (suc harts) = list_item hart ++ thread_items (hart + 1) harts

-- `m`, and the threads of so many harts
abbrev pub thread_numbers : ℕ → List ℕ
thread_numbers harts = 109 ∷ thread_items 0 harts

-- a word as eight digits, the highest first
abbrev pub eight_digits : ℕ → List ℕ
eight_digits word = bytes_text (to_be_bytes w32 word)

-- what GDB shows beside a thread
unfoldable pub thread_state_text : HartState → List ℕ
thread_state_text Running = codes "running"
thread_state_text (Exited status) = codes "exited a0 " ++ eight_digits status
thread_state_text (Faulted cause) = codes "faulted " ++ cause_name cause

-- a hart's name
unfoldable pub hart_name : ℕ → List ℕ
hart_name hart = codes " name=\"hart " ++ (decimal hart ++ codes "\"")

-- the begin of a hart's thread
unfoldable pub thread_tag : ℕ → List ℕ
thread_tag hart = codes "<thread id=\""
    ++ (number_text (thread_of hart) ++ (codes "\"" ++ (hart_name hart ++ codes ">")))

-- a hart's thread
unfoldable pub thread_element : ℕ → HartState → List ℕ
thread_element hart state = thread_tag hart ++ (thread_state_text state ++ codes "</thread>")

-- the threads of harts that are numbered from a number on
abbrev pub thread_elements : ℕ → List HartValue → List ℕ
thread_elements number [] = []
thread_elements number (hart ∷ harts) =
    thread_element number hart.state ++ thread_elements (number + 1) harts

-- the threads of all harts
abbrev pub thread_list : List HartValue → List ℕ
thread_list harts = codes "<threads>" ++ (thread_elements 0 harts ++ codes "</threads>")
