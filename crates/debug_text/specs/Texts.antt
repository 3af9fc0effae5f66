-- The texts that are shown, byte by byte.
use Rattle.std.specs.Prelude.{ℕ, zero, suc, ◌+◌, ◌-◌, ◌*◌, ◌%◌, ◌^◌, Bool, true, false, ◌&&◌, List, [], ◌∷◌, ◌++◌, Option, Some, None, codes, if◌then◌else◌}
use Rattle.std.specs.Option.{is_some}
use Rattle.std.specs.List.{flat_map}
use Rattle.std.specs.Fmt.{decimal}
use Rattle.mem_store.specs.Memory.{Memory}
use Rattle.mem_store.specs.Access.{peeked}
use Rattle.hart_step.specs.Hart.{HartValue}
use Rattle.isa_names.specs.Digits.{word_text}
use Rattle.isa_names.specs.Names.{abi}
use Rattle.isa_disasm.specs.Lines.{line_text}
use Rattle.outcome.specs.Ends.{end_line}
use Rattle.debug_session.specs.Words.{viewed_word}
use Rattle.debug_session.specs.declared.stop.AtBreak.{AtBreak}
use Rattle.debug_session.specs.declared.stop.WatchHit.{WatchHit}
use Rattle.debug_session.specs.declared.stop.Stop.{Stop}
use Rattle.debug_session.specs.declared.stop.Stop.TheVariants.{Break, Watch, Both}
use Rattle.debug_session.specs.declared.stop.WatchKind.{WatchKind}
use Rattle.debug_session.specs.declared.stop.WatchKind.TheVariants.{Change, Read, Access}
use Rattle.debug_session.specs.declared.step_view.Event.{Event}
use Rattle.debug_session.specs.declared.step_view.Event.TheVariants.{Stopped, NoFetch, Word}
use Rattle.debug_session.specs.declared.step_view.StepView.{StepView}
use Rattle.debug_text.specs.declared.register_names.Register.{Register}
use Rattle.debug_text.specs.declared.register_names.Register.TheVariants.{General, Pc}
use Rattle.debug_text.specs.declared.register_names.RegisterList.{RegisterList}

-- `step 7 of 26` and the line's end
abbrev pub position_text : ℕ → ℕ → List ℕ
position_text k n = codes "step " ++ (decimal k ++ (codes " of " ++ (decimal n ++ codes "\n")))

-- `break 0001002c` and the line's end
abbrev pub break_text : ℕ → List ℕ
break_text a = codes "break " ++ (word_text a ++ codes "\n")

-- the command that watches in this way
abbrev pub kind_text : WatchKind → List ℕ
kind_text Change = codes "watch"
kind_text Read = codes "rwatch"
kind_text Access = codes "awatch"

-- `watch 00011000` and the line's end
abbrev pub watch_text : WatchKind → ℕ → List ℕ
watch_text kind a = kind_text kind ++ (codes " " ++ (word_text a ++ codes "\n"))

-- the line of an address at which nothing is to stop any more
abbrev pub delete_text : ℕ → List ℕ
delete_text a = codes "delete " ++ (word_text a ++ codes "\n")

-- `break h0 0001002c`
abbrev pub at_text : AtBreak → List ℕ
at_text at = codes "break h" ++ (decimal at.hart ++ (codes " " ++ word_text at.address))

-- `watch 00011000`
abbrev pub hit_text : WatchHit → List ℕ
hit_text hit = kind_text hit.kind ++ (codes " " ++ word_text hit.address)

-- the reason for a stop, or the text in its place, without the line's end; both are two lines
abbrev pub stop_text : List ℕ → Option Stop → List ℕ
stop_text none None = none
stop_text none (Some (Break at)) = at_text at
stop_text none (Some (Watch hit)) = hit_text hit
stop_text none (Some (Both at hit)) = at_text at ++ (codes "\n" ++ hit_text hit)

-- the reason for a stop and its position
abbrev pub found_text : List ℕ → Option Stop → ℕ → ℕ → List ℕ
found_text none stop k n = stop_text none stop ++ (codes "\n" ++ position_text k n)

-- what a hart meets at an address
abbrev pub event_text : Event → ℕ → List ℕ
event_text Stopped pc = codes "stopped"
event_text NoFetch pc = codes "no fetch"
event_text (Word word) pc = line_text pc word

-- `!` if a choice refuses
abbrev pub mark_text : Bool → List ℕ
mark_text true = codes "!"
mark_text false = []

-- `3 h0! 00010008 addi a0, zero, 1`
abbrev pub step_line : StepView → List ℕ
step_line v =
    decimal v.index ++ (codes " h" ++ (decimal v.choice.hart ++ (mark_text v.choice.refuse
    ++ (codes " " ++ (word_text v.pc ++ (codes " " ++ event_text v.event v.pc))))))

-- a step's line with its end
abbrev pub step_entry : StepView → List ℕ
step_entry v = step_line v ++ 10 ∷ []

-- the lines of steps
unfoldable pub steps_text : List StepView → List ℕ
steps_text views = flat_map step_entry views

-- `zero 00000000` and the line's end
abbrev pub register_entry : (ℕ → ℕ) → ℕ → List ℕ
register_entry x r = abi r ++ (codes " " ++ (word_text (x r) ++ 10 ∷ []))

-- the lines of n registers from register r on
unfoldable pub registers_from : (ℕ → ℕ) → ℕ → ℕ → List ℕ
registers_from x r zero = []
registers_from x r (suc n) = register_entry x r ++ registers_from x (r + 1) n

-- the line of a register that is named, if one is
abbrev pub named_entry : HartValue → Option Register → List ℕ
named_entry hart None = []
named_entry hart (Some (General register)) = register_entry hart.registers register
named_entry hart (Some Pc) = codes "pc " ++ (word_text hart.pc ++ 10 ∷ [])

-- the lines of the registers of a list
abbrev pub register_lines : HartValue → RegisterList → List ℕ
register_lines hart list = flat_map (named_entry hart) list.registers

-- a hart's end, and its registers
unfoldable pub hart_text : ℕ → HartValue → List ℕ
hart_text number hart = end_line number hart ++ 10 ∷ registers_from hart.registers 0 32

-- whether the four bytes from an address on are mapped
abbrev pub is_mapped_word : Memory → ℕ → Bool
is_mapped_word m a =
    is_some (m.rights a) && is_some (m.rights (a + 1)) && is_some (m.rights (a + 2)) && is_some (m.rights (a + 3))

-- the word at an aligned address, or dashes where a byte is not mapped
abbrev pub cell_text : Memory → ℕ → List ℕ
cell_text m a = if is_mapped_word m a then word_text (viewed_word m a) else codes "--------"

-- `00011000 00000007` and the line's end
abbrev pub cell_entry : Memory → ℕ → List ℕ
cell_entry m a = word_text a ++ (codes " " ++ (cell_text m a ++ 10 ∷ []))

-- the lines of n words from an aligned address on, modulo 2^32
unfoldable pub cells_text : Memory → ℕ → ℕ → List ℕ
cells_text m a zero = []
cells_text m a (suc n) = cell_entry m a ++ cells_text m ((a + 4) % 2 ^ 32) n
