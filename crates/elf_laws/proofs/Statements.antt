-- Each label that texts say is a name.
use Rattle.std.proofs.Common.{ℕ, ◌+◌, Bool, true, false, cond, List, [], ◌∷◌, ◌++◌, Option, Some, None, IfSome, Result, Ok, Err, sym, subst}
use Rattle.std.specs.Prelude.{IfOk, ◌==◌, ◌&&◌}
use Rattle.std.specs.List.{list_all}
use Rattle.std.specs.Char.{is_ascii_digit}
use Rattle.asm_lex.specs.Lexemes.{Lexeme, Word, Number, Colon, lexed}
use Rattle.asm_statement.specs.declared.fault.FaultKind.{FaultKind}
use Rattle.asm_statement.specs.declared.fault.FaultKind.TheVariants as faults
use Rattle.asm_statement.specs.declared.heads.Head.{Head}
use Rattle.asm_statement.specs.declared.heads.Head.TheVariants as heads
use Rattle.asm_statement.specs.declared.statement.Body.TheVariants as bodies
use Rattle.asm_statement.specs.declared.statement.Directive.TheVariants as directives
use Rattle.asm_statement.specs.declared.statement.Instruction.{Instruction}
use Rattle.asm_statement.specs.declared.statement.Pseudo.{Pseudo}
use Rattle.asm_statement.specs.declared.statement.Section.{Section}
use Rattle.asm_statement.specs.declared.statement.Section.TheVariants as sections
use Rattle.asm_statement.specs.Directives.{directive}
use Rattle.asm_statement.specs.Heads.{head_of}
use Rattle.asm_statement.specs.Operations.{◌>>-◌, instruction}
use Rattle.asm_statement.specs.Statement.{StatementValue, BodyValue, DirectiveValue}
use Rattle.asm_statement.specs.Statements.{as_pseudo, as_instruction, as_directive, headed, load_number, load_address, call, tail, is_bytes, is_zeros, allowed_in_section, by_head, body, label_of, lines_ended}
use Rattle.asm_laws.specs.Reads.{Part, AreParts, behind_label, labelled, with_body, said_by_part, section_after, on_line, PartsSay, SourceSays, beginning, TextsSay}
use Rattle.elf_laws.specs.Labels.{IsWord}
use Rattle.elf_laws.proofs.Each.{Each, each_both, each_cut, at_ok}
use Rattle.elf_laws.proofs.Lexemes.{IsNamed, text_named}

-- where a statement is a label, that is a name
abbrev pub HasName : BodyValue → Type 0
HasName (bodies.Label name) = IsWord name
HasName (bodies.LocalLabel digits) = Unit {0}
HasName (bodies.Instruction i) = Unit {0}
HasName (bodies.Pseudo p) = Unit {0}
HasName (bodies.Directive d) = Unit {0}

abbrev pub SaysName : StatementValue → Type 0
SaysName s = HasName s.body

-- ---- labels
label_named : (ls : List Lexeme) → Each IsNamed ls → IfSome (label_of ls) HasName
unfolding label_of
label_named (Word w ∷ Colon ∷ ls) h = h.0
label_named (Number n w ∷ Colon ∷ ls) h = by (list_all is_ascii_digit w)
  where
    by : (b : Bool) → IfSome (cond b (Some (bodies.LocalLabel w)) None) HasName
    by true = tt
    by false = tt
label_named _ h = tt

behind_named : (o : Option BodyValue) (more alone : List BodyValue × List Lexeme) → IfSome o HasName → Each HasName more.0 → Each HasName alone.0
    → Each HasName (behind_label o more alone).0
behind_named (Some b) more alone h g k = (h, g)
behind_named None more alone h g k = k

labels_named : (ls : List Lexeme) → Each IsNamed ls → Each HasName (labelled ls).0
unfolding labelled
labels_named [] h = tt
labels_named (l ∷ []) h = tt
labels_named (l ∷ m ∷ ls) h = behind_named (label_of (l ∷ m ∷ ls)) (labelled ls) ([], l ∷ m ∷ ls) (label_named (l ∷ m ∷ ls) h) (labels_named ls h.1.1) tt

-- ---- bodies: none is a label
abbrev Nameless : Result (Option BodyValue) FaultKind → Type 0
Nameless r = IfOk r (λ o. IfSome o HasName)

instruction_named : (r : Result Instruction FaultKind) → Nameless (as_instruction r)
instruction_named (Ok i) = tt
instruction_named (Err f) = tt

pseudo_named : (r : Result Pseudo FaultKind) → Nameless (as_pseudo r)
pseudo_named (Ok p) = tt
pseudo_named (Err f) = tt

directive_named : (r : Result (Option DirectiveValue) FaultKind) → Nameless (as_directive r)
directive_named (Ok (Some d)) = tt
directive_named (Ok None) = tt
directive_named (Err f) = tt

headed_named : (h : Head) (ls : List Lexeme) → Nameless (headed h ls)
unfolding headed
headed_named (heads.Operation operation) ls = instruction_named (instruction operation ls)
headed_named heads.Li ls = pseudo_named (load_number ls)
headed_named heads.La ls = pseudo_named (load_address ls)
headed_named heads.Call ls = pseudo_named (call ls)
headed_named heads.Tail ls = pseudo_named (tail ls)
headed_named h ls = directive_named (directive h ls)

chosen : (test : Bool) (r s : Result (Option BodyValue) FaultKind) → Nameless r → Nameless s → Nameless (cond test r s)
chosen true r s h g = h
chosen false r s h g = g

allowed_named : (section : Section) (o : Option BodyValue) → IfSome o HasName → Nameless (allowed_in_section section o)
allowed_named section None h = tt
allowed_named section (Some b) h = chosen (is_zeros section && is_bytes b) (Err faults.Directive) (Ok (Some b)) tt h

then_named : (section : Section) (r : Result (Option BodyValue) FaultKind) → Nameless r → Nameless (r >>- allowed_in_section section)
then_named section (Ok o) h = allowed_named section o h
then_named section (Err f) h = tt

by_head_named : (section : Section) (name : List ℕ) (ls : List Lexeme) (o : Option Head) → Nameless (by_head section name ls o)
by_head_named section name ls (Some head) = then_named section (headed head ls) (headed_named head ls)
by_head_named section name ls None = tt

body_named : (section : Section) (ls : List Lexeme) → Nameless (body section ls)
unfolding body
body_named section [] = tt
body_named section (Word name ∷ ls) = by_head_named section name ls (head_of name)
body_named section _ = tt

-- ---- parts
with_body_named : (labels : List BodyValue) (r : Result (Option BodyValue) FaultKind) → Each HasName labels → Nameless r → IfOk (with_body labels r) (Each HasName)
with_body_named labels (Ok None) h g = h
with_body_named labels (Ok (Some b)) h g = each_both HasName labels (b ∷ []) h (g, tt)
with_body_named labels (Err kind) h g = tt

said_named : (section : Section) (p : Part) → Each IsNamed p.lexemes → IfOk (said_by_part section p) (Each HasName)
said_named section p h =
    with_body_named (labelled p.lexemes).0 (body section (labelled p.lexemes).1) (labels_named p.lexemes h) (body_named section (labelled p.lexemes).1)

line_named : (source line : ℕ) (bs : List BodyValue) → Each HasName bs → Each SaysName (on_line source line bs)
line_named source line [] h = tt
line_named source line (b ∷ bs) h = (h.0, line_named source line bs h.1)

abbrev IsNamedPart : Part → Type 0
IsNamedPart p = Each IsNamed p.lexemes

cut_named : (line : ℕ) (ls : List Lexeme) (ps : List Part) → AreParts line ls ps → Each IsNamed ls → Each IsNamedPart ps
cut_named line ls [] h g = tt
cut_named line ls (p ∷ []) h g = (subst (Each IsNamed) h.2 g, tt)
cut_named line ls (p ∷ q ∷ ps) h g =
    let both = each_cut IsNamed p.lexemes (h.2.0 ∷ h.2.1) (subst (Each IsNamed) h.2.3 g) in
    (both.0, cut_named (line + lines_ended h.2.0) h.2.1 (q ∷ ps) h.2.4 both.1.1)

parts_named : (source : ℕ) (section : Section) (ps : List Part) (ss : List StatementValue) → Each IsNamedPart ps → PartsSay source section ps ss → Each SaysName ss
parts_named source section [] ss h e = subst (Each SaysName) (sym e) tt
parts_named source section (p ∷ ps) ss h e =
    let here : Each HasName e.0 = at_ok (Each HasName) (said_by_part section p) e.0 e.2 (said_named section p h.0) in
    subst (Each SaysName) (sym e.3)
    (each_both SaysName (on_line source p.line e.0) e.1 (line_named source p.line e.0 here) (parts_named source (section_after section e.0) ps e.1 h.1 e.4))

-- ---- sources
source_named : (source : ℕ) (text : List ℕ) (ss : List StatementValue) → SourceSays source text ss → Each SaysName ss
source_named source text ss h =
    parts_named source sections.Text h.parts ss (cut_named 1 (lexed 0 text).lexemes h.parts h.are_parts (text_named 0 text)) h.say

beginning_named : (source : ℕ) → Each SaysName (beginning source)
beginning_named source = by (source == 0)
  where
    by : (b : Bool) → Each SaysName (cond b [] (record { source = source; line = 1; body = bodies.Directive (directives.Section sections.Text) } ∷ []))
    by true = tt
    by false = (tt, tt)

pub texts_named : (source : ℕ) (texts : List (List ℕ)) (ss : List StatementValue) → TextsSay source texts ss → Each SaysName ss
texts_named source [] ss h = subst (Each SaysName) (sym h) tt
texts_named source (text ∷ texts) ss h =
    subst (Each SaysName) (sym h.3)
    (each_both SaysName (beginning source) (h.0 ++ h.1) (beginning_named source)
    (each_both SaysName h.0 h.1 (source_named source text h.0 h.2) (texts_named (source + 1) texts h.1 h.4)))
