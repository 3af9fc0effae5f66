-- The answer of a command, and the session after it.
use Rattle.std.specs.Prelude.{ℕ, ◌+◌, ◌-◌, ◌*◌, ◌==◌, ◌||◌, nat_le, nat_lt, max, Bool, true, false, List, [], length, drop, slice_get, Option, Some, None, Result, Ok, Err, string_bytes, codes, if◌then◌else◌}
use Rattle.std.specs.List.{position_or_len}
use Rattle.std.specs.Option.{option_map}
use Rattle.hart_reservations.specs.Marks.{word_of}
use Rattle.hart_step.specs.Hart.{HartValue}
use Rattle.debug_session.specs.Points.{with_address, without_address, with_watched, without_watched}
use Rattle.debug_session.specs.Session.{Session, length_of, moved, world_at, Found, next_found, earlier_found}
use Rattle.debug_session.specs.Steps.{shown_steps}
use Rattle.debug_session.specs.declared.stop.Stop.{Stop}
use Rattle.debug_session.specs.declared.stop.WatchKind.{WatchKind}
use Rattle.elf_read.specs.Symbol.{SymbolValue}
use Rattle.debug_text.specs.Code.{code_text}
use Rattle.debug_text.specs.Commands.{CommandRead, command_of}
use Rattle.debug_text.specs.Help.{help_text}
use Rattle.debug_text.specs.Texts.{position_text, break_text, watch_text, delete_text, found_text, steps_text, hart_text, register_lines, cells_text}
use Rattle.debug_text.specs.declared.answer.Answer.{Answer}
use Rattle.debug_text.specs.declared.answer.Answer.TheVariants as answer
use Rattle.debug_text.specs.declared.commands.Command.{Command}
use Rattle.debug_text.specs.declared.commands.Command.TheVariants.{Nothing, Help, Where, Goto, Forward, Back, Step, Break, Watch, Delete, Go, Rgo, Steps, Listing, Regs, Registers, Mem, Quit}
use Rattle.debug_text.specs.declared.register_names.RegisterList.{RegisterList}
use Rattle.debug_text.specs.declared.fault.DebugFault.{DebugFault}
use Rattle.debug_text.specs.declared.fault.DebugFault.TheVariants.{BadCommand, PastEnd}

-- the text that is shown, the session after it, and whether it has ended
pub record Outcome : Type 0 where
  pub text : List ℕ
  pub after : Session
  pub ended : Bool

-- an outcome, or the fault
abbrev pub Reply : Type 0
Reply = Result Outcome DebugFault

-- a text is shown, and the session goes on
abbrev pub shows : List ℕ → Session → Reply
shows text after = Ok (record { text = text; after = after; ended = false })

-- the session has moved to a position, which is shown
abbrev pub shows_move : Session → ℕ → Reply
shows_move s k = shows (position_text k (length_of s)) (moved s k)

-- the session has moved n choices forwards, if there are so many
abbrev pub shows_forward : Session → ℕ → Reply
shows_forward s n =
    if nat_le n (length_of s - s.position) then shows_move s (s.position + n) else Err PastEnd

-- the session has moved to position k, if it exists
abbrev pub shows_goto : Session → ℕ → Reply
shows_goto s k = if nat_le k (length_of s) then shows_move s k else Err PastEnd

-- the session has moved n choices back, if there are so many
abbrev pub shows_back : Session → ℕ → Reply
shows_back s n = if nat_le n s.position then shows_move s (s.position - n) else Err PastEnd

-- the number of choices from the position on up to the next one of hart h, and that one; one more
-- than are left if there is none
abbrev pub choices_to : Session → ℕ → ℕ
choices_to s h = position_or_len (λ c. c.hart == h) (drop s.position s.choices) + 1

-- the session has moved behind the next choice of hart h, if there is one
abbrev pub shows_step : Session → ℕ → Reply
shows_step s h =
    if nat_lt h (length (world_at s s.position).harts) then shows_forward s (choices_to s h) else Err BadCommand

-- a breakpoint is added
abbrev pub shows_break : Session → ℕ → Reply
shows_break s a = shows (break_text a) (record s { breaks = with_address s.breaks a })

-- the word that contains an address is watched
abbrev pub shows_watch : Session → WatchKind → ℕ → Reply
shows_watch s kind a =
    shows (watch_text kind (word_of a)) (record s { watches = with_watched kind s.watches (word_of a) })

-- the breakpoint at an address and the watches of its word are removed
abbrev pub shows_delete : Session → ℕ → Reply
shows_delete s a = shows (delete_text a) (record s {
  breaks = without_address s.breaks a;
  watches = without_watched s.watches (word_of a);
})

-- the session has moved to a stop; its reason is shown, or the text in its place
abbrev pub shows_found : Session → List ℕ → Found Stop → Reply
shows_found s none found = shows (found_text none found.1 found.0 (length_of s)) (moved s found.0)

-- the steps of the choices from index a to b - 1, if both are positions
abbrev pub shows_steps : Session → ℕ → ℕ → Reply
shows_steps s a b =
    if nat_le (max a b) (length_of s) then shows (steps_text (shown_steps s a b)) s else Err PastEnd

-- a hart at the position
abbrev pub hart_here : Session → ℕ → Option HartValue
hart_here s h = slice_get (world_at s s.position).harts h

-- the registers of a hart, if it exists
abbrev pub shows_hart : Session → ℕ → Option HartValue → Reply
shows_hart s h None = Err BadCommand
shows_hart s h (Some hart) = shows (hart_text h hart) s

-- these registers of a hart, if it exists
abbrev pub shows_registers : Session → RegisterList → Option HartValue → Reply
shows_registers s list None = Err BadCommand
shows_registers s list (Some hart) = shows (register_lines hart list) s

-- 1 to 64 words from the aligned one on that contains an address
abbrev pub shows_cells : Session → ℕ → ℕ → Reply
shows_cells s a n =
    if n == 0 || nat_lt 64 n then Err BadCommand
    else shows (cells_text (world_at s s.position).memory (word_of a) n) s

-- the instructions around the pc of a hart, if it exists
abbrev pub shows_code : List SymbolValue → Session → ℕ → Option HartValue → Reply
shows_code symbols s h None = Err BadCommand
shows_code symbols s h (Some hart) = shows (code_text symbols (world_at s s.position).memory h hart) s

-- the hart of the next choice, if one is left
abbrev pub next_hart : Session → Option ℕ
next_hart s = option_map (λ c. c.hart) (slice_get s.choices s.position)

-- those around the pc of that hart
abbrev pub shows_next_code : List SymbolValue → Session → Option ℕ → Reply
shows_next_code symbols s None = Err PastEnd
shows_next_code symbols s (Some h) = shows_code symbols s h (hart_here s h)

-- those of a hart by its number, or of the next choice's
abbrev pub shows_listing : List SymbolValue → Session → Option ℕ → Reply
shows_listing symbols s None = shows_next_code symbols s (next_hart s)
shows_listing symbols s (Some h) = shows_code symbols s h (hart_here s h)

-- the answer of a command in a session of a program with these symbols
unfoldable pub reply : List SymbolValue → Session → Command → Reply
reply symbols s Nothing = shows [] s
reply symbols s Help = shows help_text s
reply symbols s Where = shows_move s s.position
reply symbols s (Goto k) = shows_goto s k
reply symbols s (Forward n) = shows_forward s n
reply symbols s (Back n) = shows_back s n
reply symbols s (Step h) = shows_step s h
reply symbols s (Break a) = shows_break s a
reply symbols s (Watch kind a) = shows_watch s kind a
reply symbols s (Delete a) = shows_delete s a
reply symbols s Go = shows_found s (codes "end") (next_found s)
reply symbols s Rgo = shows_found s (codes "start") (earlier_found s)
reply symbols s (Steps a b) = shows_steps s a b
reply symbols s (Listing h) = shows_listing symbols s h
reply symbols s (Regs h) = shows_hart s h (hart_here s h)
reply symbols s (Registers h list) = shows_registers s list (hart_here s h)
reply symbols s (Mem a n) = shows_cells s a n
reply symbols s Quit = Ok (record { text = []; after = s; ended = true })

-- the answer of a line with this command, or the line's fault
abbrev pub reply_if : List SymbolValue → Session → CommandRead → Reply
reply_if symbols s (Err why) = Err why
reply_if symbols s (Ok command) = reply symbols s command

-- the answer of a line, without its end, in a session of a program with these symbols
unfoldable pub reply_to : List SymbolValue → Session → List ℕ → Reply
reply_to symbols s line = reply_if symbols s (command_of symbols line)

-- an answer as an outcome
abbrev pub reply_outcome : {Z : Type 0} → Answer Z → Session → Outcome
reply_outcome (answer.Text text) after = record { text = string_bytes text; after = after; ended = false }
reply_outcome answer.Quit after = record { text = []; after = after; ended = true }
