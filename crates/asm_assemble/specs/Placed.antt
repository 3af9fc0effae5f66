-- The places and bytes of a program's statements, as one checks a listing: each statement given
-- those before and after it. `Assembled` has how a program is computed, and which fault counts;
-- this file has what such a program is, and laws/ proves that both agree.
use Rattle.std.specs.Prelude.{ℕ, ◌≡◌, ◌+◌, ◌*◌, ◌%◌, ◌^◌, ◌<◌, ◌≤◌, Bool, true, false, if◌then◌else◌}
use Rattle.std.specs.Prelude.{List, [], ◌∷◌, ◌++◌, length, map, Some, None, Ok, Err, unwrap_or, codes}
use Rattle.std.specs.List.{sum_by, flat_map, list_any}
use Rattle.std.specs.Str.{bytes_eq}
use Rattle.asm_statement.specs.Statement.{StatementValue, BodyValue}
use Rattle.asm_statement.specs.declared.fault.Fault.{Fault}
use Rattle.asm_statement.specs.declared.statement.Section.{Section}
use Rattle.asm_statement.specs.declared.statement.Section.TheVariants as sections
use Rattle.asm_statement.specs.declared.statement.Body.TheVariants as body
use Rattle.asm_statement.specs.declared.statement.Directive.TheVariants as directive
use Rattle.asm_statement.specs.declared.statement.Instruction.{Instruction}
use Rattle.asm_statement.specs.declared.statement.Instruction.TheVariants as read
use Rattle.asm_statement.specs.declared.operand.Target.{Target}
use Rattle.asm_statement.specs.declared.operand.Target.TheVariants as targets
use Rattle.isa_table.specs.declared.instr.Instr.{Instr}
use Rattle.isa_table.specs.declared.instr.Instr.TheVariants as instr
use Rattle.asm_assemble.specs.declared.instruction.Pair.{Pair}
use Rattle.asm_assemble.specs.Program.{SymbolList, ProgramValue, segment_size}
use Rattle.asm_assemble.specs.Numbers.{as_word, amount_of, is_signed_word, hi, lo, distance}
use Rattle.asm_assemble.specs.Operands.{found, operand_address, immediate_of, upper_of}
use Rattle.asm_assemble.specs.Instructions.{instr_pair}
use Rattle.asm_assemble.specs.Cursors.{size, section_of}
use Rattle.asm_assemble.specs.Locals.{is_local_name}
use Rattle.asm_assemble.specs.Valuing.{instr_bytes, pair_bytes, directive_bytes}
use Rattle.asm_assemble.specs.Assembled.{assembled}

-- a statement, and its place
pub record Standing : Type 0 where
  pub statement : StatementValue
  pub section : Section
  pub address : ℕ

-- the bases of the sections
pub record Bases : Type 0 where
  pub text_base : ℕ
  pub data_base : ℕ
  pub zeros_base : ℕ

-- the base of a section
abbrev pub placed_base : Section → Bases → ℕ
placed_base sections.Text bases = bases.text_base
placed_base sections.Data bases = bases.data_base
placed_base sections.Zeros bases = bases.zeros_base

-- whether two sections are the same
abbrev pub is_same : Section → Section → Bool
is_same sections.Text sections.Text = true
is_same sections.Text sections.Data = false
is_same sections.Text sections.Zeros = false
is_same sections.Data sections.Text = false
is_same sections.Data sections.Data = true
is_same sections.Data sections.Zeros = false
is_same sections.Zeros sections.Text = false
is_same sections.Zeros sections.Data = false
is_same sections.Zeros sections.Zeros = true

-- the section after statements: that of the last section change among them, else the one in which
-- they start; each source after the first starts with a change to `.text`
unfoldable pub placed_section_behind : Section → List Standing → Section
placed_section_behind first [] = first
placed_section_behind first (s ∷ rest) = placed_section_behind (unwrap_or (section_of s.statement.body) first) rest

-- the number of bytes of a statement in a section
abbrev pub taken_by : Section → Standing → ℕ
taken_by section s = if is_same s.section section then size s.address s.statement.body else 0

-- the number of bytes of statements in a section
abbrev pub taken : Section → List Standing → ℕ
taken section ss = sum_by (taken_by section) ss

-- the least multiple of a unit that is at least an address
pub record IsNextMultiple (unit address base : ℕ) : Type 0 where
  pub times : ℕ
  pub multiple : base ≡ times * unit
  pub not_below : address ≤ base
  pub least : base < address + unit

-- the text begins at 0x00010000, the data at the least multiple of 4096 not below the text's end,
-- the zeros at the data's end, rounded up to a multiple of 4
pub record AreBases (bases : Bases) (all : List Standing) : Type 0 where
  pub text_begins : bases.text_base ≡ 0x10000
  pub data_begins : IsNextMultiple 4096 (bases.text_base + taken sections.Text all) bases.data_base
  pub zeros_begin : IsNextMultiple 4 (bases.data_base + taken sections.Data all) bases.zeros_base

-- the statement is in the section of the last section change before it, or in `.text` if there is
-- none, at the section's base plus the sizes before it there
pub record StandsThere (bases : Bases) (before : List Standing) (s : Standing) : Type 0 where
  pub in_section : s.section ≡ placed_section_behind sections.Text before
  pub at_address : s.address ≡ placed_base s.section bases + taken s.section before

-- whether a statement makes a name global
abbrev pub makes_global : List ℕ → BodyValue → Bool
makes_global name (body.Directive (directive.Global names)) = list_any (bytes_eq name) names
makes_global name b = false

-- whether one of the statements makes a name global
abbrev pub is_global : List Standing → List ℕ → Bool
is_global all name = list_any (λ s. makes_global name s.statement.body) all

-- the symbol that a statement defines, if any
abbrev pub symbol_at : List Standing → Section → ℕ → BodyValue → SymbolList
symbol_at all section at (body.Label name) =
    (name, record { section = section; address = at % 2 ^ 32; global = is_global all name }) ∷ []
symbol_at all section at b = []

-- the symbols that statements define, in order
unfoldable pub placed_symbols_in : List Standing → List Standing → SymbolList
placed_symbols_in all ss = flat_map (λ s. symbol_at all s.section s.address s.statement.body) ss

-- an instruction is at a multiple of 4; an alignment is at most 2^12; a label's name is new, and
-- the symbol table has its address
abbrev pub IsFit : SymbolList → SymbolList → ℕ → BodyValue → Type 0
IsFit symbols seen at (body.Label name) = (found seen name ≡ None) × (operand_address symbols name ≡ Some (at % 2 ^ 32))
IsFit symbols seen at (body.Instruction i) = at % 4 ≡ 0
IsFit symbols seen at (body.Pseudo p) = at % 4 ≡ 0
IsFit symbols seen at (body.Directive (directive.Align n)) = n ≤ 12
IsFit symbols seen at b = Unit {0}

-- ---- the values of operands

-- none of the statements is a local label with these digits
abbrev pub HasNone : List ℕ → List Standing → Type 0
HasNone digits ss = list_any (λ s. is_local_name digits s.statement.body) ss ≡ false

-- the last local label with these digits is in this source, at this address modulo 2^32
pub record IsLastLocal (digits : List ℕ) (source address : ℕ) (before : List Standing) : Type 0 where
  pub front : List Standing
  pub label : Standing
  pub back : List Standing
  pub cut : before ≡ front ++ label ∷ back
  pub is_label : is_local_name digits label.statement.body ≡ true
  pub no_other : HasNone digits back
  pub in_source : label.statement.source ≡ source
  pub at_address : label.address % 2 ^ 32 ≡ address

-- the same of the first one
pub record IsNextLocal (digits : List ℕ) (source address : ℕ) (after : List Standing) : Type 0 where
  pub front : List Standing
  pub label : Standing
  pub back : List Standing
  pub cut : after ≡ front ++ label ∷ back
  pub is_label : is_local_name digits label.statement.body ≡ true
  pub no_other : HasNone digits front
  pub in_source : label.statement.source ≡ source
  pub at_address : label.address % 2 ^ 32 ≡ address

-- the address of a target in a statement of a source: a number, a symbol's address, the last such
-- local label before the statement, or the next one after it
abbrev pub IsTarget : SymbolList → List Standing → ℕ → List Standing → Target → ℕ → Type 0
IsTarget symbols before source after (targets.Address n) to = to ≡ as_word n
IsTarget symbols before source after (targets.Symbol name) to = operand_address symbols name ≡ Some to
IsTarget symbols before source after (targets.Back digits) to = IsLastLocal digits source to before
IsTarget symbols before source after (targets.Ahead digits) to = IsNextLocal digits source to after

-- the offset from a statement's address to its target: the difference modulo 2^32, an even signed
-- number of this many bits
pub record IsOffset (width : ℕ) (symbols : SymbolList) (before : List Standing) (s : Standing)
    (after : List Standing) (target : Target) (offset : ℕ) : Type 0 where
  pub to : ℕ
  pub is_target : IsTarget symbols before s.statement.source after target to
  pub reaches : (s.address + offset) % 2 ^ 32 ≡ to % 2 ^ 32
  pub word : offset < 2 ^ 32
  pub signed : is_signed_word width offset ≡ true
  pub even : offset % 2 ≡ 0

-- the instruction of a statement, with the values of its operands by the symbol table
abbrev pub IsInstr : SymbolList → List Standing → Standing → List Standing → Instruction → Instr → Type 0
IsInstr symbols before s after (read.Fixed j) i = i ≡ j
IsInstr symbols before s after (read.Lui rd imm) i =
    (high : ℕ) × (upper_of symbols imm ≡ Ok high) × (i ≡ instr.Lui rd high)
IsInstr symbols before s after (read.Auipc rd imm) i =
    (high : ℕ) × (upper_of symbols imm ≡ Ok high) × (i ≡ instr.Auipc rd high)
IsInstr symbols before s after (read.Jal rd target) i =
    (offset : ℕ) × IsOffset 21 symbols before s after target offset × (i ≡ instr.Jal rd offset)
IsInstr symbols before s after (read.Jalr rd rs1 imm) i =
    (word : ℕ) × (immediate_of symbols imm ≡ Ok word) × (i ≡ instr.Jalr rd rs1 word)
IsInstr symbols before s after (read.Branch op rs1 rs2 target) i =
    (offset : ℕ) × IsOffset 13 symbols before s after target offset × (i ≡ instr.Branch op rs1 rs2 offset)
IsInstr symbols before s after (read.Load op rd rs1 imm) i =
    (word : ℕ) × (immediate_of symbols imm ≡ Ok word) × (i ≡ instr.Load op rd rs1 word)
IsInstr symbols before s after (read.Store op rs1 rs2 imm) i =
    (word : ℕ) × (immediate_of symbols imm ≡ Ok word) × (i ≡ instr.Store op rs1 rs2 word)
IsInstr symbols before s after (read.Immediate op rd rs1 imm) i =
    (word : ℕ) × (immediate_of symbols imm ≡ Ok word) × (i ≡ instr.Immediate op rd rs1 word)
IsInstr symbols before s after (read.Shift op rd rs1 amount) i =
    (count : ℕ) × (amount_of amount ≡ Ok count) × (i ≡ instr.Shift op rd rs1 count)

-- the bytes of a statement in a section
abbrev pub HasBytes : SymbolList → List Standing → Standing → List Standing → Section → BodyValue → List ℕ
    → Type 0
HasBytes symbols before s after section (body.Label name) bytes = bytes ≡ []
HasBytes symbols before s after section (body.LocalLabel digits) bytes = bytes ≡ []
HasBytes symbols before s after section (body.Instruction i) bytes =
    (j : Instr) × IsInstr symbols before s after i j × (bytes ≡ instr_bytes j)
HasBytes symbols before s after section (body.Pseudo p) bytes =
    (pair : Pair) × (instr_pair symbols s.address p ≡ Ok pair) × (bytes ≡ pair_bytes pair.first pair.second)
HasBytes symbols before s after section (body.Directive d) bytes =
    directive_bytes symbols section s.address d ≡ Ok bytes

-- a statement has as many bytes as its size, and they are at its address in a section
pub record IsHeld (section : Section) (base : ℕ) (whole : List ℕ) (symbols : SymbolList)
    (before : List Standing) (s : Standing) (after : List Standing) : Type 0 where
  pub bytes : List ℕ
  pub valued : HasBytes symbols before s after section s.statement.body bytes
  pub sized : length bytes ≡ size s.address s.statement.body
  pub front : List ℕ
  pub back : List ℕ
  pub cut : whole ≡ front ++ (bytes ++ back)
  pub at_address : base + length front ≡ s.address

-- a statement's bytes are in its section; zeros have none
abbrev pub Holds : Section → Bases → ProgramValue → List Standing → Standing → List Standing → Type 0
Holds sections.Text bases p before s after = IsHeld sections.Text bases.text_base p.text p.symbols before s after
Holds sections.Data bases p before s after = IsHeld sections.Data bases.data_base p.bytes p.symbols before s after
Holds sections.Zeros bases p before s after = Unit {0}

-- ---- the program

-- statements are in order, each at its section's base plus the sizes before it
pub record AreStanding (ss : List StatementValue) (all : List Standing) (bases : Bases) : Type 0 where
  pub statements : map (λ (s : Standing). s.statement) all ≡ ss
  pub begins : AreBases bases all
  pub stands : (before : List Standing) (s : Standing) (after : List Standing) → all ≡ before ++ s ∷ after
      → StandsThere bases before s

-- a program has these statements at these places
pub record ArePlaced (ss : List StatementValue) (p : ProgramValue) (all : List Standing) (bases : Bases) : Type 0 where
  pub standing : AreStanding ss all bases
  -- the symbols are the labels in order, each once and at its address; instructions are aligned
  pub symbols : p.symbols ≡ placed_symbols_in all all
  pub fits : (before : List Standing) (s : Standing) (after : List Standing) → all ≡ before ++ s ∷ after
      → IsFit p.symbols (placed_symbols_in all before) s.address s.statement.body
  -- each statement's bytes are at its address, operands by the symbols; there are no other bytes
  pub holds : (before : List Standing) (s : Standing) (after : List Standing) → all ≡ before ++ s ∷ after
      → Holds s.section bases p before s after
  pub text_size : length p.text ≡ taken sections.Text all
  pub data_size : length p.bytes ≡ taken sections.Data all
  pub zeros_size : p.zeros ≡ taken sections.Zeros all
  -- the program is within the limit; its entry is `_start`, else the text's base
  pub within : length p.text + segment_size (length p.bytes) p.zeros ≤ 2 ^ 24
  pub entry : p.entry ≡ unwrap_or (operand_address p.symbols (codes "_start")) 0x10000

-- a program has its statements where one symbol table puts them
pub record Placed (ss : List StatementValue) (p : ProgramValue) : Type 0 where
  pub all : List Standing
  pub bases : Bases
  pub placed : ArePlaced ss p all bases

-- ---- laws

-- an assembled program has its statements where one symbol table puts them
abbrev pub AssembledIsPlaced : Type 0
AssembledIsPlaced = (ss : List StatementValue) (p : ProgramValue) → assembled ss ≡ Ok p → Placed ss p

-- a program with its statements placed in this way is the one that is assembled
abbrev pub PlacedIsAssembled : Type 0
PlacedIsAssembled = (ss : List StatementValue) (p : ProgramValue) → Placed ss p → assembled ss ≡ Ok p

-- statements have at most one program
abbrev pub OneProgram : Type 0
OneProgram = (ss : List StatementValue) (p q : ProgramValue) → Placed ss p → Placed ss q → p ≡ q

-- if the assembler returns a fault, no program has the statements placed in this way
abbrev pub FaultyIsUnplaced : Type 0
FaultyIsUnplaced =
    (ss : List StatementValue) (fault : Fault) (p : ProgramValue) → assembled ss ≡ Err fault → Placed ss p → ⊥

-- `%hi` and `%lo` of a word add up to it, with `%hi` in the upper 20 bits
abbrev pub PartsMake : Type 0
PartsMake = (v : ℕ) → v < 2 ^ 32 → (hi v * 2 ^ 12 + lo v) % 2 ^ 32 ≡ v

-- those of the distance to a target lead there: `la`, `call` and `tail` reach their symbol
abbrev pub PartsReach : Type 0
PartsReach = (at to : ℕ) → (at + (hi (distance at to) * 2 ^ 12 + lo (distance at to))) % 2 ^ 32 ≡ to % 2 ^ 32
