-- The rows of a table in Markdown: a column for the choice's number, one for each hart, and one for
-- the label of the instruction.
use Rattle.std.specs.Prelude.{ℕ, zero, suc, ◌+◌, ◌-◌, ◌==◌, nat_lt, Bool, true, false, List, [], ◌∷◌, ◌++◌, codes, decimal, flat_map, Option, Some, None, if◌then◌else◌}
use Rattle.isa_table.specs.declared.instr.Instr.{Instr}
use Rattle.isa_names.specs.Names.{abi}
use Rattle.isa_names.specs.Digits.{word_text}
use Rattle.elf_read.specs.Symbol.{SymbolValue}
use Rattle.elf_read.specs.Label.{nearest_label}
use Rattle.isa_disasm.specs.Lines.{line_text}
use Rattle.trace_text.specs.Values.{cause_text}
use Rattle.trace_steps.specs.declared.explaining.Explained.{Explained}
use Rattle.trace_steps.specs.declared.failure.Failure.{Failure}
use Rattle.trace_steps.specs.declared.failure.Failure.TheVariants.{NotReserved, Ended, OtherWord, Refused}
use Rattle.trace_steps.specs.declared.told.Written.{Written}
use Rattle.trace_text.specs.declared.effect.Effect.{Effect}
use Rattle.trace_text.specs.declared.effect.Effect.TheVariants.{Succeeds, Fails, Sets, Stores, Accesses, Exits, Faults, Rests}
use Rattle.trace_text.specs.Effects.{effects_of}

-- a byte of a text in a cell: a bar has a backslash before it, or it would end the cell; a question
-- mark stands for a control character
unfoldable pub cell_byte : ℕ → List ℕ
cell_byte byte = if byte == 124 then 92 ∷ 124 ∷ [] else (if nat_lt byte 32 then 63 ∷ [] else byte ∷ [])

-- a number as eight digits
abbrev pub hex : ℕ → List ℕ
hex n = codes "0x" ++ word_text n

-- ` → `, in UTF-8
abbrev pub arrow : List ℕ
arrow = 32 ∷ 226 ∷ 134 ∷ 146 ∷ 32 ∷ []

-- a hart
unfoldable pub ender_text : ℕ → List ℕ
ender_text h = codes "hart " ++ decimal h

-- in which choice
unfoldable pub place_text : ℕ → List ℕ
place_text k = codes " at choice " ++ decimal k

-- why a store-conditional failed
unfoldable pub failure_text : Failure → List ℕ
failure_text NotReserved = codes "no reservation"
failure_text (Ended step) =
    codes "ended by " ++ (ender_text step.hart ++ place_text step.choice)
failure_text (OtherWord word) = codes "reserved " ++ hex word
failure_text Refused = codes "refused"

-- a thing that a choice did
unfoldable pub effect_text : Effect → List ℕ
effect_text Succeeds = codes "succeeds"
effect_text (Fails why) = codes "fails: " ++ failure_text why
effect_text (Sets w) = abi w.register ++ (codes " = " ++ hex w.value)
effect_text (Stores address before after) =
    codes "[" ++ (hex address ++ (codes "]: " ++ (hex before ++ (arrow ++ hex after))))
effect_text (Accesses address) = codes "[" ++ (hex address ++ codes "]")
effect_text (Exits status) = codes "exits with " ++ hex status
effect_text (Faults cause) = codes "faults: " ++ cause_text cause
effect_text Rests = codes "has stopped"

-- things behind a first, each behind a comma and a blank
unfoldable pub more_effects : List Effect → List ℕ
more_effects [] = []
more_effects (e ∷ effects) = 44 ∷ 32 ∷ (effect_text e ++ more_effects effects)

-- the things that a choice did, behind a blank
unfoldable pub effects_text : List Effect → List ℕ
effects_text [] = []
effects_text (e ∷ effects) = 32 ∷ (effect_text e ++ more_effects effects)

-- the canonical line of the word at an address as code behind a blank, nothing where it is no
-- instruction or there is none
unfoldable pub instr_text : ℕ → Option ℕ → Option Instr → List ℕ
instr_text pc None instr = []
instr_text pc (Some word) None = []
instr_text pc (Some word) (Some instr) = 32 ∷ 96 ∷ (flat_map cell_byte (line_text pc word) ++ 96 ∷ [])

-- that the choice has the mark
unfoldable pub table_mark : Bool → List ℕ
table_mark true = codes " (refused)"
table_mark false = []

-- what stands in the column of the choice's hart
unfoldable pub table_cell : Explained → List ℕ
table_cell e =
    instr_text e.told.pc e.told.word e.told.instr ++ (effects_text (effects_of e) ++ table_mark e.told.choice.refuse)

-- how far an address is behind its label
abbrev pub offset_text : ℕ → List ℕ
offset_text distance = if distance == 0 then [] else 43 ∷ decimal distance

-- an address as its label and how far it is behind that, after a blank; a blank alone where it has
-- none
unfoldable pub label_text : Option SymbolValue → ℕ → List ℕ
label_text None address = 32 ∷ []
label_text (Some label) address = 32 ∷ (flat_map cell_byte label.name ++ offset_text (address - label.address))

-- the column of the instruction's label, and LF
unfoldable pub label_column : List SymbolValue → ℕ → List ℕ
label_column symbols pc = label_text (nearest_label None symbols pc) pc ++ codes " |\n"

-- the columns of so many harts from number h on: only the choice's hart has something in its own
unfoldable pub columns_from : Explained → ℕ → ℕ → List ℕ
columns_from e h zero = []
columns_from e h (suc count) =
    (if h == e.told.choice.hart then table_cell e else 32 ∷ []) ++ (codes " |" ++ columns_from e (h + 1) count)

-- the row of choice k and of what it did, for so many harts
unfoldable pub table_row : List SymbolValue → Explained → ℕ → ℕ → List ℕ
table_row symbols e k harts =
    codes "| " ++ (decimal k ++ (codes " |" ++ (columns_from e 0 harts ++ label_column symbols e.told.pc)))

-- the names of the columns of so many harts from number h on, that of labels, and LF
unfoldable pub names_from : ℕ → ℕ → List ℕ
names_from h zero = codes " At |\n"
names_from h (suc count) = codes " Hart " ++ (decimal h ++ (codes " |" ++ names_from (h + 1) count))

-- the rules under the names of so many columns, under that of labels, and LF
unfoldable pub rules_of : ℕ → List ℕ
rules_of zero = codes "---|\n"
rules_of (suc count) = codes "---|" ++ rules_of count

-- the rows above those of the choices
unfoldable pub head_rows : ℕ → List ℕ
head_rows harts = codes "| Choice |" ++ (names_from 0 harts ++ (codes "|---|" ++ rules_of harts))
