-- Phase 2: the values of operands, and its faults.
use Rattle.std.specs.Prelude.{ℕ, ◌≡◌, zero, suc, ◌/◌, ◌%◌, ◌^◌, Bool, true, false, List, [], ◌∷◌, ◌++◌, Option, Some, None, Result, Ok, Err, ℤ, replicate}
use Rattle.std.specs.Int.{w16, w32, to_le_bytes}
use Rattle.std.specs.List.{list_all}
use Rattle.asm_statement.specs.Answer.{◌>>=◌}
use Rattle.asm_statement.specs.Statement.{StatementValue, BodyValue, DirectiveValue}
use Rattle.asm_statement.specs.declared.fault.Fault.{Fault}
use Rattle.asm_statement.specs.declared.fault.FaultKind.{FaultKind}
use Rattle.asm_statement.specs.declared.fault.FaultKind.TheVariants as kinds
use Rattle.asm_statement.specs.declared.operand.Value.{Value}
use Rattle.asm_statement.specs.declared.operand.Value.TheVariants as values
use Rattle.asm_statement.specs.declared.statement.Section.{Section}
use Rattle.asm_statement.specs.declared.statement.Section.TheVariants as sections
use Rattle.asm_statement.specs.declared.statement.Body.TheVariants as body
use Rattle.asm_statement.specs.declared.statement.Directive.TheVariants as directive
use Rattle.isa_table.specs.declared.instr.Instr.{Instr}
use Rattle.isa_table.specs.Spells.{word_of}
use Rattle.asm_assemble.specs.declared.cursor.Cursor.{Cursor}
use Rattle.asm_assemble.specs.declared.push.PushFault.{PushFault}
use Rattle.asm_assemble.specs.declared.push.PushFault.TheVariants as faults
use Rattle.asm_assemble.specs.Program.{SymbolList}
use Rattle.asm_assemble.specs.Numbers.{as_word, is_in_range}
use Rattle.asm_assemble.specs.Operands.{valued_operand}
use Rattle.asm_assemble.specs.Instructions.{placed_instr, instr_pair}
use Rattle.asm_assemble.specs.Cursors.{align_size, cursor_address, stepped_cursor}
use Rattle.asm_assemble.specs.Locals.{Local, local_label_at, local_label_of}
use Rattle.asm_assemble.specs.Placing.{at_statement}

-- the bytes of an instruction, little-endian
unfoldable pub instr_bytes : Instr → List ℕ
instr_bytes i = to_le_bytes w32 (word_of i)

-- the bytes of one or two instructions
unfoldable pub pair_bytes : Instr → Option Instr → List ℕ
pair_bytes first None = instr_bytes first
pair_bytes first (Some second) = instr_bytes first ++ instr_bytes second

-- whether a value fits a word, if it is a number
unfoldable pub fits_word : Value → Bool
fits_word (values.Number n) = is_in_range (2 ^ 31) (2 ^ 32) n
fits_word (values.Symbol name offset) = true

-- the bytes of values, four each
unfoldable pub word_list : SymbolList → List Value → Result (List ℕ) FaultKind
word_list symbols [] = Ok []
word_list symbols (v ∷ vs) =
    valued_operand symbols v >>= λ word. word_list symbols vs >>= λ bytes. Ok (to_le_bytes w32 word ++ bytes)

-- the bytes of numbers, two each
unfoldable pub half_list : List ℤ → List ℕ
half_list [] = []
half_list (n ∷ ns) = to_le_bytes w16 (as_word n % 2 ^ 16) ++ half_list ns

-- the bytes of numbers, one each
unfoldable pub byte_list : List ℤ → List ℕ
byte_list [] = []
byte_list (n ∷ ns) = as_word n % 2 ^ 8 ∷ byte_list ns

-- the bytes, if all numbers fit
unfoldable pub where_fits : Bool → Result (List ℕ) FaultKind → Result (List ℕ) FaultKind
where_fits true bytes = bytes
where_fits false bytes = Err kinds.Range

-- this many NOPs: `addi zero, zero, 0`
unfoldable pub nops : ℕ → List ℕ
nops zero = []
nops (suc n) = 0x13 ∷ 0 ∷ 0 ∷ 0 ∷ nops n

-- padding: in the text zeros up to a multiple of 4 and then NOPs, elsewhere zeros
unfoldable pub padding : Section → ℕ → List ℕ
padding sections.Text count = replicate (count % 4) 0 ++ nops (count / 4)
padding sections.Data count = replicate count 0
padding sections.Zeros count = replicate count 0

-- the bytes of a directive at an address in a section
unfoldable pub directive_bytes : SymbolList → Section → ℕ → DirectiveValue → Result (List ℕ) FaultKind
directive_bytes symbols section at (directive.Words vs) =
    where_fits (list_all fits_word vs) (word_list symbols vs)
directive_bytes symbols section at (directive.Halves ns) =
    where_fits (list_all (is_in_range (2 ^ 15) (2 ^ 16)) ns) (Ok (half_list ns))
directive_bytes symbols section at (directive.Bytes ns) =
    where_fits (list_all (is_in_range (2 ^ 7) (2 ^ 8)) ns) (Ok (byte_list ns))
directive_bytes symbols section at (directive.Ascii bytes) = Ok bytes
directive_bytes symbols section at (directive.Zero count) = Ok (replicate count 0)
directive_bytes symbols section at (directive.Align n) =
    Ok (padding section (align_size at n))
directive_bytes symbols section at (directive.Section to) = Ok []
directive_bytes symbols section at (directive.Global names) = Ok []

-- the bytes of a statement at an address in a section
unfoldable pub valued_bytes : SymbolList → Option ℕ → Section → ℕ → BodyValue → Result (List ℕ) FaultKind
valued_bytes symbols local section at (body.Label name) = Ok []
valued_bytes symbols local section at (body.LocalLabel digits) = Ok []
valued_bytes symbols local section at (body.Instruction i) =
    placed_instr symbols local at i >>= λ i. Ok (instr_bytes i)
valued_bytes symbols local section at (body.Pseudo p) =
    instr_pair symbols at p >>= λ pair. Ok (pair_bytes pair.first pair.second)
valued_bytes symbols local section at (body.Directive d) = directive_bytes symbols section at d

-- the bytes with more after them
unfoldable pub appended : List ℕ → Result (List ℕ) FaultKind → Result (List ℕ) FaultKind
appended done (Ok bytes) = Ok (done ++ bytes)
appended done (Err kind) = Err kind

-- the pushed bytes are the expected ones, or out of memory
unfoldable pub Pushes : {X : Type 0} → Result (Unit {0}) PushFault → X → Result X FaultKind → Type 0
Pushes (Ok _) value expected = expected ≡ Ok value
Pushes (Err (faults.Kind kind)) value expected = expected ≡ Err kind
Pushes (Err faults.Memory) value expected = Unit {0}

-- the bytes of the two sections
pub record Images : Type 0 where
  pub text_bytes : List ℕ
  pub data_bytes : List ℕ

-- the bytes of the sections, with more at a section's end; zeros have none
unfoldable pub put_bytes : Section → Images → List ℕ → Images
put_bytes sections.Text images bytes = record images { text_bytes = images.text_bytes ++ bytes }
put_bytes sections.Data images bytes = record images { data_bytes = images.data_bytes ++ bytes }
put_bytes sections.Zeros images bytes = images

-- the bytes of a statement in its section; zeros have none, and operands there no values
unfoldable pub bytes_in : SymbolList → Option ℕ → Section → ℕ → BodyValue → Result (List ℕ) FaultKind
bytes_in symbols local sections.Text at b = valued_bytes symbols local sections.Text at b
bytes_in symbols local sections.Data at b = valued_bytes symbols local sections.Data at b
bytes_in symbols local sections.Zeros at b = Ok []

-- the sections with a statement's bytes
unfoldable pub put_all : Section → Images → Result (List ℕ) FaultKind → Result Images FaultKind
put_all section images (Ok bytes) = Ok (put_bytes section images bytes)
put_all section images (Err kind) = Err kind

-- a statement's result; a fault gets the statement's place
unfoldable pub said_at : {X : Type 0} → StatementValue → Result X FaultKind → Result X Fault
said_at s (Ok value) = Ok value
said_at s (Err kind) = Err (at_statement s kind)

-- the sections' bytes after those so far, or the first fault; earlier local labels, last first
unfoldable pub valuing : SymbolList → List Local → Images → Cursor → List StatementValue → Result Images Fault
valuing symbols before done c [] = Ok done
valuing symbols before done c (s ∷ ss) =
    let next = stepped_cursor c s.body in
    let local = local_label_of before next ss s.source s.body in
    said_at s (bytes_in symbols local c.section (cursor_address c) s.body) >>= λ bytes.
    valuing symbols (local_label_at s.source (cursor_address c) s.body ++ before) (put_bytes c.section done bytes) next ss

-- no bytes
abbrev pub no_bytes : Images
no_bytes = record { text_bytes = []; data_bytes = [] }
