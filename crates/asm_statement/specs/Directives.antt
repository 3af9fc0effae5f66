-- Directives with their operands, over lexemes.
use Rattle.std.specs.Prelude.{ℕ, ◌==◌, ◌&&◌, List, [], ◌∷◌, ◌++◌, length, take, drop, map, Bool, true, false, if◌then◌else◌, codes, Option, Some, None, Result, Ok, Err}
use Rattle.std.specs.Borrow.{Bor}
use Rattle.std.specs.Str.{bytes_eq}
use Rattle.asm_lex.specs.declared.lexeme.Lexeme as program
use Rattle.asm_lex.specs.Lexemes.{Lexeme, Word, Number, Text, Comma, seen}
use Rattle.asm_statement.specs.declared.fault.FaultKind.{FaultKind}
use Rattle.asm_statement.specs.declared.fault.FaultKind.TheVariants as faults
use Rattle.asm_statement.specs.declared.statement.Section.{Section}
use Rattle.asm_statement.specs.declared.statement.Section.TheVariants as sections
use Rattle.asm_statement.specs.declared.statement.Directive.TheVariants as directives
use Rattle.asm_statement.specs.declared.heads.Head.{Head}
use Rattle.asm_statement.specs.declared.heads.Head.TheVariants as heads
use Rattle.asm_statement.specs.Statement.{DirectiveValue}
use Rattle.asm_statement.specs.Shapes.{name, number, value}
use Rattle.asm_statement.specs.Operations.{◌>>-◌, shaped, without_operands}
use Rattle.asm_statement.specs.Texts.{quoted_bytes}

abbrev pub is_comma_lexeme : Lexeme → Bool
is_comma_lexeme Comma = true
is_comma_lexeme _ = false

-- parts of the lexemes, as contracts see them
abbrev pub parts_seen : List (Bor (List program.Lexeme)) → List (List Lexeme)
parts_seen parts = map (λ part. map seen part.now) parts

-- the parts between commas after those done; the last one has begun
unfoldable pub parts_from : List (List Lexeme) → List Lexeme → List Lexeme → List (List Lexeme)
parts_from done part [] = done ++ part ∷ []
parts_from done part (l ∷ ls) = if is_comma_lexeme l then parts_from (done ++ part ∷ []) [] ls else parts_from done (part ++ l ∷ []) ls

-- the parts between commas; at least one
abbrev pub parts : List Lexeme → List (List Lexeme)
parts ls = parts_from [] [] ls

-- the values of parts, after those done
unfoldable pub each : {X : Type 0} → (List Lexeme → Option X) → List X → List (List Lexeme) → Result (List X) FaultKind
each read done [] = Ok done
each read done (part ∷ parts) = shaped (read part) (λ x. each read (done ++ x ∷ []) parts)

-- a list separated by commas, of at least one part
abbrev pub comma_separated : {X : Type 0} → (List Lexeme → Option X) → List Lexeme → Result (List X) FaultKind
comma_separated read ls = each read [] (parts ls)

-- the bytes of one string, without anything after it, after those done
unfoldable pub text : List ℕ → List Lexeme → Result (List ℕ) FaultKind
text done (Text quoted ∷ []) = quoted_bytes done quoted
text done _ = Err faults.Operands

-- bytes, with a zero byte after them if the flag is set
abbrev pub with_end : Bool → List ℕ → List ℕ
with_end true bytes = bytes ++ 0 ∷ []
with_end false bytes = bytes

-- the bytes of strings after those done, with a zero byte after each if the flag is set
unfoldable pub texts_from : Bool → List ℕ → List (List Lexeme) → Result (List ℕ) FaultKind
texts_from ended done [] = Ok done
texts_from ended done (part ∷ parts) = text done part >>- λ bytes. texts_from ended (with_end ended bytes) parts

-- the bytes of strings separated by commas
abbrev pub texts : Bool → List Lexeme → Result (List ℕ) FaultKind
texts ended ls = texts_from ended [] (parts ls)

-- one number without a sign, without anything after it
unfoldable pub count : List Lexeme → Option ℕ
count (Number n w ∷ []) = Some n
count _ = None

-- the rest of a section's name: empty, or a dot and more
abbrev pub is_rest : List ℕ → Bool
is_rest [] = true
is_rest (b ∷ []) = false
is_rest (b ∷ c ∷ bs) = b == 46

-- whether a name is that of a section, or begins with it and a dot
abbrev pub is_section : List ℕ → List ℕ → Bool
is_section word section = bytes_eq (take (length section) word) section && is_rest (drop (length section) word)

-- the section with a name in `.section`
unfoldable pub named_section : List ℕ → Option Section
named_section word =
    if is_section word (codes ".text") then Some sections.Text else
    (if is_section word (codes ".data") then Some sections.Data else
    (if is_section word (codes ".rodata") then Some sections.Data else
    (if is_section word (codes ".bss") then Some sections.Zeros else None)))

-- the section of a `.section` directive; operands after its name are ignored
unfoldable pub section : List Lexeme → Option Section
section (Word w ∷ rest) = named_section w
section _ = None

abbrev pub made_directive : {X : Type 0} → (X → DirectiveValue) → Result X FaultKind → Result (Option DirectiveValue) FaultKind
made_directive make (Ok x) = Ok (Some (make x))
made_directive make (Err fault) = Err fault

abbrev pub required : {X : Type 0} → (X → DirectiveValue) → Option X → Result (Option DirectiveValue) FaultKind
required make (Some x) = Ok (Some (make x))
required make None = Err faults.Operands

-- the directive with a name at the front and the operands after it; none for an ignored one
unfoldable pub directive : Head → List Lexeme → Result (Option DirectiveValue) FaultKind
directive (heads.Section s) ls = made_directive directives.Section (without_operands s ls)
directive heads.NamedSection ls = required directives.Section (section ls)
directive heads.Words ls = made_directive directives.Words (comma_separated value ls)
directive heads.Halves ls = made_directive directives.Halves (comma_separated number ls)
directive heads.Bytes ls = made_directive directives.Bytes (comma_separated number ls)
directive (heads.Ascii ended) ls = made_directive directives.Ascii (texts ended ls)
directive heads.Zero ls = required directives.Zero (count ls)
directive heads.Align ls = required directives.Align (count ls)
directive heads.Global ls = made_directive directives.Global (comma_separated name ls)
directive _ ls = Ok None
