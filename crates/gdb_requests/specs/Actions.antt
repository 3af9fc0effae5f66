-- The actions of threads.
use Rattle.std.specs.Prelude.{ℕ, ◌==◌, List, [], ◌∷◌, Option, Some, None, if◌then◌else◌}
use Rattle.text_items.specs.Numbers.{before_byte, from_byte}
use Rattle.gdb_frames.specs.Digits.{hex_value}
use Rattle.gdb_requests.specs.declared.request.Action.{Action}
use Rattle.gdb_requests.specs.declared.request.Action.TheVariants.{Continue, Step, Range}
use Rattle.gdb_requests.specs.declared.request.ThreadAction.{ThreadAction}
use Rattle.gdb_requests.specs.declared.request.Threads.{Threads}
use Rattle.gdb_requests.specs.Operands.{two_numbers, threads_of}
use Rattle.gdb_requests.specs.Lists.{onto_list}
use Rattle.gdb_requests.specs.Features.{semicolon_parts}

-- `c` and `s`
abbrev pub letter_action : ℕ → Option Action
letter_action b = if b == 99 then Some Continue else (if b == 115 then Some Step else None)

-- `C` and `S`
abbrev pub signal_letter : ℕ → Option Action
signal_letter b = if b == 67 then Some Continue else (if b == 83 then Some Step else None)

-- two digits behind them are a signal
abbrev pub signal_action : ℕ → Option ℕ → Option ℕ → Option Action
signal_action b None low = None
signal_action b (Some high) None = None
signal_action b (Some high) (Some low) = signal_letter b

-- a range of addresses
abbrev pub range_action : Option (ℕ × ℕ) → Option Action
range_action None = None
range_action (Some range) = Some (Range range.0 range.1)

-- three bytes that are no range
abbrev pub three_bytes : List ℕ → Option Action
three_bytes (b ∷ (c ∷ (d ∷ []))) = signal_action b (hex_value c) (hex_value d)
three_bytes text = None

-- an action without its threads
abbrev pub action_of : List ℕ → Option Action
action_of [] = None
action_of (b ∷ []) = if b == 114 then None else letter_action b
action_of (b ∷ (c ∷ rest)) =
    if b == 114 then range_action (two_numbers (c ∷ rest)) else three_bytes (b ∷ (c ∷ rest))

-- an action, and the threads that are named, if any are
abbrev pub with_threads : Option Action → Option (Option Threads) → Option ThreadAction
with_threads None threads = None
with_threads (Some action) None = None
with_threads (Some action) (Some threads) = Some (record { action = action; threads = threads })

-- threads that are named
abbrev pub named_threads : Option Threads → Option (Option Threads)
named_threads None = None
named_threads (Some threads) = Some (Some threads)

-- threads behind a colon; without it, all
abbrev pub behind_colon : List ℕ → Option (Option Threads)
behind_colon [] = Some None
behind_colon (b ∷ operand) = named_threads (threads_of operand)

-- an action, and its threads behind a colon
abbrev pub thread_action_of : List ℕ → Option ThreadAction
thread_action_of text =
    with_threads (action_of (before_byte 58 text)) (behind_colon (from_byte 58 text))

-- the actions of some parts
unfoldable pub all_actions : List (List ℕ) → Option (List ThreadAction)
all_actions [] = Some []
all_actions (part ∷ parts) = onto_list (thread_action_of part) (all_actions parts)

-- actions with semicolons between them
abbrev pub actions_of : List ℕ → Option (List ThreadAction)
actions_of list = all_actions (semicolon_parts list)
