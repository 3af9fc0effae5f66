-- Statements of sources, over lexemes.
use Rattle.std.specs.Prelude.{ℕ, ◌+◌, ◌==◌, ◌&&◌, List, [], ◌∷◌, ◌++◌, Bool, true, false, if◌then◌else◌, Option, Some, None, Result, Ok, Err, map}
use Rattle.std.specs.Borrow.{Bor}
use Rattle.std.specs.List.{list_all}
use Rattle.std.specs.Char.{is_ascii_digit}
use Rattle.asm_lex.specs.Lexemes.{Lexeme, Word, Number, Colon, Semicolon, LineEnd, Lexed, lexed}
use Rattle.asm_statement.specs.declared.fault.FaultKind.{FaultKind}
use Rattle.asm_statement.specs.declared.fault.FaultKind.TheVariants as faults
use Rattle.asm_statement.specs.declared.fault.Fault.{Fault}
use Rattle.asm_statement.specs.declared.operand.Value.{Value}
use Rattle.asm_statement.specs.declared.operand.Value.TheVariants as values
use Rattle.asm_statement.specs.declared.statement.Pseudo.{Pseudo}
use Rattle.asm_statement.specs.declared.statement.Pseudo.TheVariants as pseudos
use Rattle.asm_statement.specs.declared.statement.Section.{Section}
use Rattle.asm_statement.specs.declared.statement.Section.TheVariants as sections
use Rattle.asm_statement.specs.declared.statement.Instruction.{Instruction}
use Rattle.asm_statement.specs.declared.statement.Body.TheVariants as bodies
use Rattle.asm_statement.specs.declared.statement.Directive.TheVariants as directives
use Rattle.asm_statement.specs.declared.place.Place.{Place}
use Rattle.asm_statement.specs.declared.heads.Head.{Head}
use Rattle.asm_statement.specs.declared.heads.Head.TheVariants as heads
use Rattle.asm_statement.specs.Statement.{StatementValue, BodyValue, DirectiveValue}
use Rattle.asm_statement.specs.Answer.{◌>>=◌}
use Rattle.asm_statement.specs.Heads.{head_of}
use Rattle.asm_statement.specs.Directives.{directive}
use Rattle.asm_statement.specs.Shapes.{name, name_in_front, number, value, register_operand}
use Rattle.asm_statement.specs.Operations.{◌>>-◌, shaped, register_and, instruction}

-- `li rd, n`
unfoldable pub load_number : List Lexeme → Result Pseudo FaultKind
load_number ls = register_and number ls >>- λ o. Ok (pseudos.Li o.0 o.1)

-- the address of a symbol, for this register
abbrev pub addressed : List ℕ → Option Value → Result Pseudo FaultKind
addressed rd (Some (values.Symbol name offset)) = register_operand rd >>- λ rd. Ok (pseudos.La rd name offset)
addressed rd (Some (values.Number n)) = Err faults.Operands
addressed rd None = Err faults.Operands

-- `la rd, x`
unfoldable pub load_address : List Lexeme → Result Pseudo FaultKind
load_address ls = shaped (name_in_front ls) (λ n. addressed n.0 (value n.1))

-- `call x`
unfoldable pub call : List Lexeme → Result Pseudo FaultKind
call ls = shaped (name ls) (λ name. Ok (pseudos.Call name))

-- `tail x`
unfoldable pub tail : List Lexeme → Result Pseudo FaultKind
tail ls = shaped (name ls) (λ name. Ok (pseudos.Tail name))

-- an unknown name: a directive's begins with a dot
unfoldable pub unknown : List ℕ → FaultKind
unknown [] = faults.Mnemonic
unknown (b ∷ bs) = if b == 46 then faults.Directive else faults.Mnemonic

abbrev pub as_pseudo : Result Pseudo FaultKind → Result (Option BodyValue) FaultKind
as_pseudo (Ok p) = Ok (Some (bodies.Pseudo p))
as_pseudo (Err fault) = Err fault

abbrev pub as_instruction : Result Instruction FaultKind → Result (Option BodyValue) FaultKind
as_instruction (Ok i) = Ok (Some (bodies.Instruction i))
as_instruction (Err fault) = Err fault

abbrev pub as_directive : Result (Option DirectiveValue) FaultKind → Result (Option BodyValue) FaultKind
as_directive (Ok (Some d)) = Ok (Some (bodies.Directive d))
as_directive (Ok None) = Ok None
as_directive (Err fault) = Err fault

-- the body of a statement that begins with a known name; none for an ignored directive
unfoldable pub headed : Head → List Lexeme → Result (Option BodyValue) FaultKind
headed (heads.Operation operation) ls = as_instruction (instruction operation ls)
headed heads.Li ls = as_pseudo (load_number ls)
headed heads.La ls = as_pseudo (load_address ls)
headed heads.Call ls = as_pseudo (call ls)
headed heads.Tail ls = as_pseudo (tail ls)
headed head ls = as_directive (directive head ls)

-- instructions and bytes, which `.bss` does not accept
abbrev pub is_bytes : BodyValue → Bool
is_bytes (bodies.Instruction i) = true
is_bytes (bodies.Pseudo p) = true
is_bytes (bodies.Directive (directives.Words vs)) = true
is_bytes (bodies.Directive (directives.Halves ns)) = true
is_bytes (bodies.Directive (directives.Bytes ns)) = true
is_bytes (bodies.Directive (directives.Ascii bs)) = true
is_bytes _ = false

abbrev pub is_zeros : Section → Bool
is_zeros sections.Zeros = true
is_zeros _ = false

-- the body, if its section allows it: `.bss` has no instructions and no bytes
abbrev pub allowed_in_section : Section → Option BodyValue → Result (Option BodyValue) FaultKind
allowed_in_section s (Some b) = if is_zeros s && is_bytes b then Err faults.Directive else Ok (Some b)
allowed_in_section s None = Ok None

abbrev pub by_head : Section → List ℕ → List Lexeme → Option Head → Result (Option BodyValue) FaultKind
by_head s name ls (Some head) = headed head ls >>- allowed_in_section s
by_head s name ls None = Err (unknown name)

-- the body of a statement that begins with a name, in a section
abbrev pub named : Section → List ℕ → List Lexeme → Result (Option BodyValue) FaultKind
named s name ls = by_head s name ls (head_of name)

-- the body of a statement after its labels, in a section
unfoldable pub body : Section → List Lexeme → Result (Option BodyValue) FaultKind
body s [] = Ok None
body s (Word name ∷ ls) = named s name ls
body s _ = Err faults.Mnemonic

abbrev pub stated : Place → BodyValue → StatementValue
stated place b = record { source = place.source; line = place.line; body = b }

abbrev pub fault_at : Place → FaultKind → Fault
fault_at place kind = record { kind = kind; source = place.source; line = place.line }

-- the label at the front
unfoldable pub label_of : List Lexeme → Option BodyValue
label_of (Word w ∷ Colon ∷ ls) = Some (bodies.Label w)
label_of (Number n w ∷ Colon ∷ ls) = if list_all is_ascii_digit w then Some (bodies.LocalLabel w) else None
label_of _ = None

abbrev pub with_label : Option BodyValue → (BodyValue → List StatementValue × List Lexeme) → List StatementValue × List Lexeme → List StatementValue × List Lexeme
with_label (Some b) next last = next b
with_label None next last = last

-- the labels at the front of a statement, after the statements done, and the lexemes after them
unfoldable pub labels_from : Place → List StatementValue → List Lexeme → List StatementValue × List Lexeme
labels_from place done (l ∷ m ∷ ls) = with_label (label_of (l ∷ m ∷ ls)) (λ b. labels_from place (done ++ stated place b ∷ []) ls) (done, l ∷ m ∷ ls)
labels_from place done ls = (done, ls)

-- the section after a body
abbrev pub section_behind : Section → BodyValue → Section
section_behind s (bodies.Directive (directives.Section next)) = next
section_behind s _ = s

abbrev pub after_body : Place → List StatementValue → Result (Option BodyValue) FaultKind → Result (List StatementValue × Section) Fault
after_body place done (Ok None) = Ok (done, place.section)
after_body place done (Ok (Some b)) = Ok (done ++ stated place b ∷ [], section_behind place.section b)
after_body place done (Err kind) = Err (fault_at place kind)

-- the statements done and those of a statement's lexemes, and the section after them
unfoldable pub statement_from : Place → List StatementValue → List Lexeme → Result (List StatementValue × Section) Fault
statement_from place done ls = let labels = labels_from place done ls in after_body place labels.0 (body place.section labels.1)

abbrev pub ends_statement : Lexeme → Bool
ends_statement Semicolon = true
ends_statement LineEnd = true
ends_statement _ = false

abbrev pub lines_ended : Lexeme → ℕ
lines_ended LineEnd = 1
lines_ended _ = 0

-- the place of the next statement
abbrev pub next_place : Place → Lexeme → Section → Place
next_place place l section = record { source = place.source; line = place.line + lines_ended l; section = section }

-- the end of the last statement; if the source is not whole, it has the fault `Token`
abbrev pub at_the_end : Bool → Place → Result (List StatementValue × Section) Fault → Result (List StatementValue) Fault
at_the_end false place last = Err (fault_at place faults.Token)
at_the_end true place (Ok r) = Ok r.0
at_the_end true place (Err fault) = Err fault

-- the statements of a source after those done; the last one has begun with a part
unfoldable pub source_from : Bool → Place → List StatementValue → List Lexeme → List Lexeme → Result (List StatementValue) Fault
source_from whole place done part [] = at_the_end whole place (statement_from place done part)
source_from whole place done part (l ∷ ls) =
    if ends_statement l
    then (statement_from place done part >>= λ r. source_from whole (next_place place l r.1) r.0 [] ls)
    else source_from whole place done (part ++ l ∷ []) ls

-- the same for the rest of a source
abbrev pub read_from : Place → List StatementValue → List Lexeme → Lexed → Result (List StatementValue) Fault
read_from place done part text = source_from text.whole place done part text.lexemes

-- a source begins on line 1, in `.text`
abbrev pub first_place : ℕ → Place
first_place source = record { source = source; line = 1; section = sections.Text }

-- the statements done, and for a source after the first the change to `.text` at its start
abbrev pub begun : ℕ → List StatementValue → List StatementValue
begun source done =
    if source == 0 then done
    else (done ++ stated (first_place source) (bodies.Directive (directives.Section sections.Text)) ∷ [])

-- the statements of a source after those done
abbrev pub source_statements : ℕ → List StatementValue → Lexed → Result (List StatementValue) Fault
source_statements source done text = read_from (first_place source) (begun source done) [] text

-- the statements of sources from an index on, after those done
unfoldable pub sources_from : ℕ → List StatementValue → List (List ℕ) → Result (List StatementValue) Fault
sources_from source done [] = Ok done
sources_from source done (text ∷ texts) = source_statements source done (lexed 0 text) >>= λ more. sources_from (source + 1) more texts

-- the sources' bytes
abbrev pub texts_of : List (Bor (List ℕ)) → List (List ℕ)
texts_of sources = map (λ source. source.now) sources

-- the statements of sources, or the lowest fault of the first statement with one
unfoldable pub statements_of : List (List ℕ) → Result (List StatementValue) Fault
statements_of sources = sources_from 0 [] sources
