-- The instructions around a hart's pc, byte by byte.
use Rattle.std.specs.Prelude.{ℕ, zero, suc, ◌+◌, ◌-◌, ◌%◌, ◌^◌, ◌==◌, ◌||◌, nat_le, Bool, true, false, List, [], ◌∷◌, ◌++◌, Option, Some, None, codes, if◌then◌else◌}
use Rattle.std.specs.Option.{is_some}
use Rattle.std.specs.List.{list_all}
use Rattle.std.specs.Fmt.{decimal}
use Rattle.elf_read.specs.Label.{nearest_label}
use Rattle.elf_read.specs.Symbol.{SymbolValue}
use Rattle.mem_store.specs.Access.{fetched}
use Rattle.mem_store.specs.Memory.{Memory}
use Rattle.hart_step.specs.Hart.{HartValue}
use Rattle.isa_names.specs.Digits.{word_text}
use Rattle.outcome.specs.Ends.{end_line}
use Rattle.debug_session.specs.Steps.{event_at}
use Rattle.debug_text.specs.Texts.{event_text}

-- `=> ` before the pc, blanks before another address
abbrev pub pc_mark : Bool → List ℕ
pc_mark true = codes "=> "
pc_mark false = codes "   "

-- `+8`; nothing at the label itself
abbrev pub tag_offset : ℕ → List ℕ
tag_offset distance = if distance == 0 then [] else codes "+" ++ decimal distance

-- a name without control characters
abbrev pub is_plain_name : List ℕ → Bool
is_plain_name name = list_all (λ b. nat_le 32 b) name

-- ` <wait+8>`; nothing if there is no label, or its name isn't plain
unfoldable pub tag_text : Option SymbolValue → ℕ → List ℕ
tag_text None a = []
tag_text (Some label) a =
    if is_plain_name label.name then codes " <" ++ (label.name ++ (tag_offset (a - label.address) ++ codes ">")) else []

-- `=> 00010008 <wait+8> lw t0, 0(s0)` and the line's end
abbrev pub code_entry : List SymbolValue → Memory → ℕ → ℕ → List ℕ
code_entry symbols m pc a =
    pc_mark (a == pc) ++ (word_text a ++ (tag_text (nearest_label None symbols a) a
    ++ (codes " " ++ (event_text (event_at (fetched m a)) a ++ 10 ∷ []))))

-- the line of the pc, or of a word that may be executed; nothing for another word
unfoldable pub code_line : List SymbolValue → Memory → ℕ → ℕ → List ℕ
code_line symbols m pc a = if a == pc || is_some (fetched m a) then code_entry symbols m pc a else []

-- the lines of n words from an address on, modulo 2^32
unfoldable pub code_from : List SymbolValue → Memory → ℕ → ℕ → ℕ → List ℕ
code_from symbols m pc a zero = []
code_from symbols m pc a (suc n) =
    code_line symbols m pc a ++ code_from symbols m pc ((a + 4) % 2 ^ 32) n

-- a hart's end, and the lines from five words before its pc to five behind it
unfoldable pub code_text : List SymbolValue → Memory → ℕ → HartValue → List ℕ
code_text symbols m number hart =
    end_line number hart ++ 10 ∷ code_from symbols m hart.pc ((hart.pc + 2 ^ 32 - 20) % 2 ^ 32) 11
