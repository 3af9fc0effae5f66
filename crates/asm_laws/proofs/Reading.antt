-- Each statement that was read has registers in range, and none of instructions and bytes stands
-- among the zeros.
use Rattle.std.proofs.Common.{◌≡◌, ℕ, ◌+◌, Bool, true, false, cond, List, [], ◌∷◌, ◌++◌, map, Option, Some, None, Result, Ok, Err, IfSome, refl, sym, ap, subst, ◌∙◌, arith}
use Rattle.std.specs.Prelude.{IfOk, unwrap_or, ◌&&◌, ◌==◌}
use Rattle.std.specs.List.{list_all}
use Rattle.std.proofs.lemmas.Bool.Decides.{nat_tests}
use Rattle.std.specs.Char.{is_ascii_digit}
use Rattle.asm_lex.specs.Lexemes.{Lexeme, Word, Number, Colon, lexed}
use Rattle.asm_statement.specs.declared.fault.Fault.{Fault}
use Rattle.asm_statement.specs.declared.fault.FaultKind.{FaultKind}
use Rattle.asm_statement.specs.declared.statement.Instruction.{Instruction}
use Rattle.asm_statement.specs.declared.statement.Pseudo.{Pseudo}
use Rattle.asm_statement.specs.declared.statement.Section.{Section}
use Rattle.asm_statement.specs.declared.statement.Section.TheVariants as sections
use Rattle.asm_statement.specs.declared.statement.Body.TheVariants as bodies
use Rattle.asm_statement.specs.declared.statement.Directive.TheVariants as directives
use Rattle.asm_statement.specs.declared.place.Place.{Place}
use Rattle.asm_statement.specs.declared.heads.Head.{Head}
use Rattle.asm_statement.specs.declared.heads.Head.TheVariants as heads
use Rattle.asm_statement.specs.Answer.{◌>>=◌}
use Rattle.asm_statement.specs.Directives.{directive}
use Rattle.asm_statement.specs.Heads.{head_of}
use Rattle.asm_statement.specs.Operations.{◌>>-◌, instruction}
use Rattle.asm_statement.specs.Statement.{StatementValue, BodyValue, DirectiveValue}
use Rattle.asm_statement.specs.Statements.{as_pseudo, as_instruction, as_directive, headed, load_number, load_address, call, tail, is_bytes, is_zeros, allowed_in_section, by_head, body, stated, label_of, labels_from, with_label, section_behind, after_body, statement_from, ends_statement, next_place, at_the_end, source_from, first_place, begun, sources_from, statements_of}
use Rattle.asm_assemble.specs.Cursors.{section_of}
use Rattle.asm_assemble.specs.Placed as placed
use Rattle.asm_assemble.specs.Placed.{Standing}
use Rattle.asm_laws.proofs.Operands.{HasRegisters, PseudoHasRegister, instruction_in, li_in, la_in, call_in, tail_in}

-- registers are in range
abbrev pub IsReadable : BodyValue → Type 0
IsReadable (bodies.Instruction i) = HasRegisters i
IsReadable (bodies.Pseudo p) = PseudoHasRegister p
IsReadable (bodies.Label name) = Unit {0}
IsReadable (bodies.LocalLabel digits) = Unit {0}
IsReadable (bodies.Directive d) = Unit {0}

pub record IsWell (s : Section) (b : BodyValue) : Type 0 where
  pub readable : IsReadable b
  pub takes : (is_zeros s && is_bytes b) ≡ false

instruction_read : (r : Result Instruction FaultKind) → IfOk r HasRegisters → IfOk (as_instruction r) (λ o. IfSome o IsReadable)
instruction_read (Ok i) h = h
instruction_read (Err f) h = tt

pseudo_read : (r : Result Pseudo FaultKind) → IfOk r PseudoHasRegister → IfOk (as_pseudo r) (λ o. IfSome o IsReadable)
pseudo_read (Ok p) h = h
pseudo_read (Err f) h = tt

directive_read : (r : Result (Option DirectiveValue) FaultKind) → IfOk (as_directive r) (λ o. IfSome o IsReadable)
directive_read (Ok (Some d)) = tt
directive_read (Ok None) = tt
directive_read (Err f) = tt

headed_read : (h : Head) (ls : List Lexeme) → IfOk (headed h ls) (λ o. IfSome o IsReadable)
unfolding headed
headed_read (heads.Operation operation) ls = instruction_read (instruction operation ls) (instruction_in operation ls)
headed_read heads.Li ls = pseudo_read (load_number ls) (li_in ls)
headed_read heads.La ls = pseudo_read (load_address ls) (la_in ls)
headed_read heads.Call ls = pseudo_read (call ls) (call_in ls)
headed_read heads.Tail ls = pseudo_read (tail ls) (tail_in ls)
headed_read h ls = directive_read (directive h ls)

allowed_read : (s : Section) (o : Option BodyValue) → IfSome o IsReadable → IfOk (allowed_in_section s o) (λ o. IfSome o (IsWell s))
allowed_read s None h = tt
allowed_read s (Some b) h = by (is_zeros s && is_bytes b) refl
  where
    by : (t : Bool) → (is_zeros s && is_bytes b) ≡ t → IfOk (allowed_in_section s (Some b)) (λ o. IfSome o (IsWell s))
    by true e = rw e tt
    by false e = rw e (record { readable = h; takes = e })

then_read : (s : Section) (r : Result (Option BodyValue) FaultKind) → IfOk r (λ o. IfSome o IsReadable) → IfOk (r >>- allowed_in_section s) (λ o. IfSome o (IsWell s))
then_read s (Ok o) h = allowed_read s o h
then_read s (Err f) h = tt

by_head_read : (s : Section) (name : List ℕ) (ls : List Lexeme) (o : Option Head) → IfOk (by_head s name ls o) (λ o. IfSome o (IsWell s))
by_head_read s name ls (Some head) = then_read s (headed head ls) (headed_read head ls)
by_head_read s name ls None = tt

body_read : (s : Section) (ls : List Lexeme) → IfOk (body s ls) (λ o. IfSome o (IsWell s))
unfolding body
body_read s [] = tt
body_read s (Word name ∷ ls) = by_head_read s name ls (head_of name)
body_read s _ = tt

-- ---- statements one behind the other
-- the section behind statements
unfoldable pub after : Section → List StatementValue → Section
after s [] = s
after s (x ∷ xs) = after (section_behind s x.body) xs

-- each is well in the section in which it stands
unfoldable pub AreWell : Section → List StatementValue → Type 0
AreWell s [] = Unit {0}
AreWell s (x ∷ xs) = IsWell s x.body × AreWell (section_behind s x.body) xs

after_more : (s : Section) (xs : List StatementValue) (x : StatementValue) → after s (xs ++ x ∷ []) ≡ section_behind (after s xs) x.body
unfolding after
after_more s [] x = refl
after_more s (y ∷ xs) x = after_more (section_behind s y.body) xs x

well_more : (s : Section) (xs : List StatementValue) (x : StatementValue) → AreWell s xs → IsWell (after s xs) x.body → AreWell s (xs ++ x ∷ [])
unfolding after AreWell
well_more s [] x h w = (w, tt)
well_more s (y ∷ xs) x h w = (h.0, well_more (section_behind s y.body) xs x h.1 w)

-- the statements done, and the section behind them
record Well (done : List StatementValue) (s : Section) : Type 0 where
  all : AreWell sections.Text done
  ends : after sections.Text done ≡ s

push : (place : Place) (done : List StatementValue) (s : Section) (b : BodyValue) → Well done s → IsWell s b → Well (done ++ stated place b ∷ []) (section_behind s b)
push place done s b h w = record {
  all = well_more sections.Text done (stated place b) h.all (subst (λ t. IsWell t b) (sym h.ends) w);
  ends = after_more sections.Text done (stated place b) ∙ ap (λ t. section_behind t b) h.ends;
}

-- a label changes nothing
record IsMark (b : BodyValue) : Type 0 where
  well : (s : Section) → IsWell s b
  stays : (s : Section) → section_behind s b ≡ s

and_false : (b : Bool) → (b && false) ≡ false
and_false true = refl
and_false false = refl

label_mark : (name : List ℕ) → IsMark (bodies.Label name)
label_mark name = record { well = λ s. record { readable = tt; takes = and_false (is_zeros s) }; stays = λ s. refl }

local_mark : (digits : List ℕ) → IsMark (bodies.LocalLabel digits)
local_mark digits = record { well = λ s. record { readable = tt; takes = and_false (is_zeros s) }; stays = λ s. refl }

label_is : (ls : List Lexeme) → IfSome (label_of ls) IsMark
unfolding label_of
label_is (Word w ∷ Colon ∷ ls) = label_mark w
label_is (Number n w ∷ Colon ∷ ls) = by (list_all is_ascii_digit w)
  where
    by : (b : Bool) → IfSome (cond b (Some (bodies.LocalLabel w)) None) IsMark
    by true = local_mark w
    by false = tt
label_is _ = tt

pushed_mark : (place : Place) (done : List StatementValue) (b : BodyValue) → Well done place.section → IsMark b → Well (done ++ stated place b ∷ []) place.section
pushed_mark place done b h m = subst (λ s. Well (done ++ stated place b ∷ []) s) (m.stays place.section) (push place done place.section b h (m.well place.section))

with_label_read : (place : Place) (o : Option BodyValue) → IfSome o IsMark → (next : BodyValue → List StatementValue × List Lexeme) (last : List StatementValue × List Lexeme)
    → ((b : BodyValue) → IsMark b → Well (next b).0 place.section) → Well last.0 place.section → Well (with_label o next last).0 place.section
with_label_read place (Some b) m next last g h = g b m
with_label_read place None m next last g h = h

labels_read : (place : Place) (done : List StatementValue) (ls : List Lexeme) → Well done place.section → Well (labels_from place done ls).0 place.section
unfolding labels_from
labels_read place done [] h = h
labels_read place done (l ∷ []) h = h
labels_read place done (l ∷ m ∷ ls) h =
    with_label_read place (label_of (l ∷ m ∷ ls)) (label_is (l ∷ m ∷ ls)) (λ b. labels_from place (done ++ stated place b ∷ []) ls) (done, l ∷ m ∷ ls)
    (λ b mark. labels_read place (done ++ stated place b ∷ []) ls (pushed_mark place done b h mark)) h

after_body_read : (place : Place) (done : List StatementValue) (r : Result (Option BodyValue) FaultKind) → Well done place.section → IfOk r (λ o. IfSome o (IsWell place.section))
    → IfOk (after_body place done r) (λ q. Well q.0 q.1)
after_body_read place done (Ok None) h w = h
after_body_read place done (Ok (Some b)) h w = push place done place.section b h w
after_body_read place done (Err kind) h w = tt

statement_read : (place : Place) (done : List StatementValue) (ls : List Lexeme) → Well done place.section → IfOk (statement_from place done ls) (λ q. Well q.0 q.1)
unfolding statement_from
statement_read place done ls h =
    after_body_read place (labels_from place done ls).0 (body place.section (labels_from place done ls).1)
    (labels_read place done ls h) (body_read place.section (labels_from place done ls).1)

-- ---- sources
-- the statements done are well
record AreDone (done : List StatementValue) : Type 0 where
  section : Section
  well : Well done section

end_read : (whole : Bool) (place : Place) (r : Result (List StatementValue × Section) Fault) → IfOk r (λ q. Well q.0 q.1) → IfOk (at_the_end whole place r) AreDone
end_read false place r h = tt
end_read true place (Ok q) h = record { section = q.1; well = h }
end_read true place (Err fault) h = tt

then_source : (r : Result (List StatementValue × Section) Fault) (next : List StatementValue × Section → Result (List StatementValue) Fault) → IfOk r (λ q. Well q.0 q.1)
    → ((q : List StatementValue × Section) → Well q.0 q.1 → IfOk (next q) AreDone) → IfOk (r >>= next) AreDone
then_source (Ok q) next h g = g q h
then_source (Err fault) next h g = tt

chosen_read : (b : Bool) (r s : Result (List StatementValue) Fault) → IfOk r AreDone → IfOk s AreDone → IfOk (cond b r s) AreDone
chosen_read true r s g h = g
chosen_read false r s g h = h

source_read : (whole : Bool) (place : Place) (done : List StatementValue) (part ls : List Lexeme) → Well done place.section → IfOk (source_from whole place done part ls) AreDone
unfolding source_from
source_read whole place done part [] h = end_read whole place (statement_from place done part) (statement_read place done part h)
source_read whole place done part (l ∷ ls) h =
    chosen_read (ends_statement l) (statement_from place done part >>= λ r. source_from whole (next_place place l r.1) r.0 [] ls) (source_from whole place done (part ++ l ∷ []) ls)
    (then_source (statement_from place done part) (λ r. source_from whole (next_place place l r.1) r.0 [] ls) (statement_read place done part h)
    (λ q w. source_read whole (next_place place l q.1) q.0 [] ls w))
    (source_read whole place done (part ++ l ∷ []) ls h)

text_change : IsWell sections.Text (bodies.Directive (directives.Section sections.Text))
text_change = record { readable = tt; takes = refl }

section_change : (s : Section) → IsWell s (bodies.Directive (directives.Section sections.Text))
section_change s = record { readable = tt; takes = and_false (is_zeros s) }

-- before a source: nothing is done before the first one
record Ready (source : ℕ) (done : List StatementValue) : Type 0 where
  section : Section
  well : Well done section
  first : (source == 0) ≡ true → section ≡ sections.Text

begun_read : (source : ℕ) (done : List StatementValue) → Ready source done → Well (begun source done) sections.Text
begun_read source done h = by (source == 0) refl
  where
    by : (b : Bool) → (source == 0) ≡ b → Well (begun source done) sections.Text
    by true e = rw e (subst (λ s. Well done s) (h.first e) h.well)
    by false e = rw e (push (first_place source) done h.section (bodies.Directive (directives.Section sections.Text)) h.well (section_change h.section))

more_sources : (r : Result (List StatementValue) Fault) (next : List StatementValue → Result (List StatementValue) Fault) → IfOk r AreDone
    → ((q : List StatementValue) → AreDone q → IfOk (next q) AreDone) → IfOk (r >>= next) AreDone
more_sources (Ok q) next h g = g q h
more_sources (Err fault) next h g = tt

not_first : (source : ℕ) (s : Section) → ((source + 1) == 0) ≡ true → s ≡ sections.Text
not_first source s e = absurd (grind (arith, nat_tests))

sources_read : (source : ℕ) (done : List StatementValue) (texts : List (List ℕ)) → Ready source done → IfOk (sources_from source done texts) AreDone
unfolding sources_from
sources_read source done [] h = record { section = h.section; well = h.well }
sources_read source done (text ∷ texts) h =
    more_sources (source_from (lexed 0 text).whole (first_place source) (begun source done) [] (lexed 0 text).lexemes) (λ more. sources_from (source + 1) more texts)
    (source_read (lexed 0 text).whole (first_place source) (begun source done) [] (lexed 0 text).lexemes (begun_read source done h))
    (λ q d. sources_read (source + 1) q texts (record { section = d.section; well = d.well; first = not_first source d.section }))

none_done : Ready 0 []
unfolding AreWell after
none_done = record { section = sections.Text; well = record { all = tt; ends = refl }; first = λ e. refl }

at_ok : (r : Result (List StatementValue) Fault) (ss : List StatementValue) → r ≡ Ok ss → IfOk r AreDone → AreDone ss
at_ok (Ok xs) ss e h = let same : xs ≡ ss = cc in subst AreDone same h
at_ok (Err fault) ss e h = absurd cc

pub all_well : (texts : List (List ℕ)) (ss : List StatementValue) → statements_of texts ≡ Ok ss → AreWell sections.Text ss
unfolding statements_of
all_well texts ss e = (at_ok (sources_from 0 [] texts) ss e (sources_read 0 [] texts none_done)).well.all

-- ---- where they stand
same_behind : (s : Section) (b : BodyValue) → section_behind s b ≡ unwrap_or (section_of b) s
unfolding section_of
same_behind s (bodies.Label n) = refl
same_behind s (bodies.LocalLabel n) = refl
same_behind s (bodies.Instruction n) = refl
same_behind s (bodies.Pseudo n) = refl
same_behind s (bodies.Directive (directives.Section n)) = refl
same_behind s (bodies.Directive (directives.Align n)) = refl
same_behind s (bodies.Directive (directives.Zero n)) = refl
same_behind s (bodies.Directive (directives.Words n)) = refl
same_behind s (bodies.Directive (directives.Halves n)) = refl
same_behind s (bodies.Directive (directives.Bytes n)) = refl
same_behind s (bodies.Directive (directives.Ascii n)) = refl
same_behind s (bodies.Directive (directives.Global n)) = refl

abbrev pub statements_in : List Standing → List StatementValue
statements_in all = map (λ (s : Standing). s.statement) all

pub well_at : (first : Section) (before : List Standing) (s : Standing) (after : List Standing) → AreWell first (statements_in (before ++ s ∷ after)) → IsWell (placed.placed_section_behind first before) s.statement.body
unfolding AreWell placed.placed_section_behind
well_at first [] s after h = h.0
well_at first (x ∷ before) s after h =
    well_at (unwrap_or (section_of x.statement.body) first) before s after
    (subst (λ t. AreWell t (statements_in (before ++ s ∷ after))) (same_behind first x.statement.body) h.1)
