-- The texts that are shown, byte by byte.
use Rattle.std.specs.Prelude.{ℕ, ◌+◌, ◌==◌, Bool, true, false, List, [], ◌∷◌, ◌++◌, length, slice_get, Option, Some, None, codes}
use Rattle.std.specs.List.{flat_map}
use Rattle.std.specs.Fmt.{decimal}
use Rattle.hart_reservations.specs.Marks.{Marks}
use Rattle.hart_step.specs.Hart.{HartValue}
use Rattle.hart_step.specs.declared.hart.HartState.{HartState}
use Rattle.hart_step.specs.declared.hart.HartState.TheVariants.{Running, Exited, Faulted}
use Rattle.isa_names.specs.Digits.{word_text}
use Rattle.machine.specs.World.{World}
use Rattle.machine.specs.declared.choice.Choice.{Choice}
use Rattle.outcome.specs.Ends.{cause_name}
use Rattle.debug_session.specs.declared.step_view.StepView.{StepView}
use Rattle.debug_text.specs.Texts.{mark_text, step_entry}

-- the choice that comes next, or the end
abbrev pub next_text : Option Choice → List ℕ
next_text None = codes ", end"
next_text (Some c) = codes ", next hart " ++ (decimal c.hart ++ mark_text c.refuse)

-- `step 3 of 26, next hart 1` and the line's end
abbrev pub next_position : List Choice → ℕ → List ℕ
next_position choices k =
    codes "step " ++ (decimal k ++ (codes " of " ++ (decimal (length choices)
    ++ (next_text (slice_get choices k) ++ codes "\n"))))

-- what stands in front of a choice: whether it comes next
abbrev pub pointer_text : Bool → List ℕ
pointer_text true = codes "> "
pointer_text false = codes "  "

-- `> 3 h0! 00010008 addi a0, zero, 1` and the line's end
abbrev pub schedule_entry : ℕ → StepView → List ℕ
schedule_entry position v = pointer_text (v.index == position) ++ step_entry v

-- the lines of choices
unfoldable pub schedule_text : ℕ → List StepView → List ℕ
schedule_text position views = flat_map (schedule_entry position) views

-- whether a hart runs, and how it ended
abbrev pub hart_end_text : HartState → List ℕ
hart_end_text Running = codes "running"
hart_end_text (Exited status) = codes "exited a0 " ++ word_text status
hart_end_text (Faulted cause) = codes "faulted " ++ cause_name cause

-- the word that a hart has reserved
abbrev pub reserved_text : Option ℕ → List ℕ
reserved_text None = []
reserved_text (Some word) = codes " reserves " ++ word_text word

-- `hart 1 running reserves 00011000` and the line's end
abbrev pub hart_entry : ℕ → HartState → Option ℕ → List ℕ
hart_entry number state word =
    codes "hart " ++ (decimal number ++ (codes " " ++ (hart_end_text state
    ++ (reserved_text word ++ codes "\n"))))

-- the lines of harts that are numbered from a number on
abbrev pub hart_entries : Marks → ℕ → List HartValue → List ℕ
hart_entries reserved number [] = []
hart_entries reserved number (hart ∷ harts) =
    hart_entry number hart.state (reserved number) ++ hart_entries reserved (number + 1) harts

-- the lines of all harts
abbrev pub harts_text : World → List ℕ
harts_text w = hart_entries w.reserved 0 w.harts
