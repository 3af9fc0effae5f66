-- Requests without a list: GDB's manual, "Remote Serial Protocol", "Packets" and "General Query
-- Packets".
use Rattle.std.specs.Prelude.{ℕ, ◌==◌, ◌||◌, List, [], ◌∷◌, drop, codes, Option, Some, None, Result, Ok, Err, if◌then◌else◌}
use Rattle.std.specs.Str.{bytes_eq}
use Rattle.gdb_requests.specs.declared.fault.RequestFault.{RequestFault}
use Rattle.gdb_requests.specs.declared.fault.RequestFault.TheVariants.{BadOperand, Unknown}
use Rattle.gdb_requests.specs.declared.request.Plain.{Plain}
use Rattle.gdb_requests.specs.declared.request.Plain.TheVariants.{Supported, NoAcks, Reason, Target, ThreadList, FirstThreads, MoreThreads, ThreadState, CurrentThread, Attached, Symbols, ReadThread, MoveThreads, IsThere, Registers, Register, Memory, Insert, Remove, Actions, Continue, Step, BackContinue, BackStep, Write, Detach, Kill}
use Rattle.gdb_requests.specs.declared.request.Point.{Point}
use Rattle.gdb_requests.specs.declared.request.Threads.{Threads}
use Rattle.gdb_requests.specs.Words.{begins_with}
use Rattle.gdb_requests.specs.Numbers.{hex_number}
use Rattle.gdb_requests.specs.Operands.{two_numbers, threads_of, point_of}
use Rattle.gdb_requests.specs.Features.{announces}

-- questions without an operand
abbrev pub bare_question : List ℕ → Option Plain
bare_question text =
    if bytes_eq text (codes "?") then Some Reason
    else (if bytes_eq text (codes "g") then Some Registers
    else (if bytes_eq text (codes "qC") then Some CurrentThread
    else (if bytes_eq text (codes "qAttached") then Some Attached
    else (if bytes_eq text (codes "qSymbol::") then Some Symbols
    else (if bytes_eq text (codes "qfThreadInfo") then Some FirstThreads
    else (if bytes_eq text (codes "qsThreadInfo") then Some MoreThreads
    else (if bytes_eq text (codes "vCont?") then Some Actions else None)))))))

-- moves, and what changes the session, without an operand
abbrev pub bare_move : List ℕ → Option Plain
bare_move text =
    if bytes_eq text (codes "c") then Some Continue
    else (if bytes_eq text (codes "s") then Some Step
    else (if bytes_eq text (codes "bc") then Some BackContinue
    else (if bytes_eq text (codes "bs") then Some BackStep
    else (if bytes_eq text (codes "QStartNoAckMode") then Some NoAcks
    else (if bytes_eq text (codes "D") then Some Detach
    else (if bytes_eq text (codes "k") then Some Kill else None))))))

-- a request of a number, of two, of threads or of a point
abbrev pub asks_number : (ℕ → Plain) → Option ℕ → Result Plain RequestFault
asks_number make None = Err BadOperand
asks_number make (Some n) = Ok (make n)

abbrev pub asks_numbers : (ℕ → ℕ → Plain) → Option (ℕ × ℕ) → Result Plain RequestFault
asks_numbers make None = Err BadOperand
asks_numbers make (Some numbers) = Ok (make numbers.0 numbers.1)

abbrev pub asks_point : (Point → Plain) → Result Point RequestFault → Result Plain RequestFault
asks_point make (Err fault) = Err fault
asks_point make (Ok point) = Ok (make point)

-- what follows `q`
abbrev pub query_of : List ℕ → Result Plain RequestFault
query_of text =
    if begins_with (codes "Supported") text
    then Ok (Supported (announces (codes "swbreak+") (drop 9 text)))
    else (if begins_with (codes "Xfer:features:read:target.xml:") text
    then asks_numbers Target (two_numbers (drop 30 text))
    else (if begins_with (codes "Xfer:threads:read::") text
    then asks_numbers ThreadList (two_numbers (drop 19 text))
    else (if begins_with (codes "ThreadExtraInfo,") text
    then asks_number ThreadState (hex_number (drop 16 text)) else Err Unknown)))

-- `g` and `c`
abbrev pub selected : ℕ → Option Threads → Result Plain RequestFault
selected b None = Err BadOperand
selected b (Some threads) =
    if b == 103 then Ok (ReadThread threads)
    else (if b == 99 then Ok (MoveThreads threads) else Err BadOperand)

-- what follows `H`
abbrev pub selection_of : List ℕ → Result Plain RequestFault
selection_of [] = Err BadOperand
selection_of (b ∷ operand) = selected b (threads_of operand)

-- `T`, `p` and `m`, and what follows them
abbrev pub numbered_of : ℕ → List ℕ → Result Plain RequestFault
numbered_of b text =
    if b == 84 then asks_number IsThere (hex_number text)
    else (if b == 112 then asks_number Register (hex_number text)
    else (if b == 109 then asks_numbers Memory (two_numbers text) else Err Unknown))

-- a letter, and what follows it: `q`, `H`, `Z`, `z`, then `G`, `P`, `M` and `X`
abbrev pub lettered_of : ℕ → List ℕ → Result Plain RequestFault
lettered_of b text =
    if b == 113 then query_of text
    else (if b == 72 then selection_of text
    else (if b == 90 then asks_point Insert (point_of text)
    else (if b == 122 then asks_point Remove (point_of text)
    else (if b == 71 || (b == 80 || (b == 77 || b == 88)) then Ok Write else numbered_of b text))))

-- a letter and operands
abbrev pub with_letter : List ℕ → Result Plain RequestFault
with_letter [] = Err Unknown
with_letter (b ∷ text) = lettered_of b text

-- a request, or else another
abbrev pub or_else : Option Plain → Result Plain RequestFault → Result Plain RequestFault
or_else None other = other
or_else (Some request) other = Ok request

-- the request of a packet that has no list
unfoldable pub plain_of : List ℕ → Result Plain RequestFault
plain_of text = or_else (bare_question text) (or_else (bare_move text) (with_letter text))
