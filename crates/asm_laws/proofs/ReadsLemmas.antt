-- What was read of sources is what they say, and a fault is that of the first part that is wrong.
use Rattle.std.proofs.Common.{◌≡◌, ℕ, ◌+◌, ◌↔◌, Bool, true, false, cond, List, [], ◌∷◌, ◌++◌, Result, Ok, Err, refl, sym, ap, ◌∙◌, append_assoc, append-nil, ◌⊎◌, inl, inr}
use Rattle.std.specs.Prelude.{◌==◌}
use Rattle.asm_lex.specs.Lexemes.{Lexeme, lexed}
use Rattle.asm_statement.specs.declared.fault.Fault.{Fault}
use Rattle.asm_statement.specs.declared.fault.FaultKind.{FaultKind}
use Rattle.asm_statement.specs.declared.fault.FaultKind.TheVariants as faults
use Rattle.asm_statement.specs.declared.place.Place.{Place}
use Rattle.asm_statement.specs.declared.statement.Section.{Section}
use Rattle.asm_statement.specs.declared.statement.Section.TheVariants as sections
use Rattle.asm_statement.specs.declared.statement.Body.TheVariants as bodies
use Rattle.asm_statement.specs.declared.statement.Directive.TheVariants as directives
use Rattle.asm_statement.specs.Answer.{◌>>=◌}
use Rattle.asm_statement.specs.Statement.{StatementValue, BodyValue}
use Rattle.asm_statement.specs.Statements.{stated, lines_ended, next_place, at_the_end, source_from, first_place, begun, source_statements, sources_from, statements_of}
use Rattle.asm_laws.specs.Reads.{Part, AreParts, said_by_part, section_after, on_line, PartsSay, PartsFail, SourceSays, SourceFails, beginning, TextsSay, TextsFail, IsDecided}
use Rattle.asm_laws.proofs.Parts.{placed, parts_exist, statement_is, goes_on, goes_to_the_end}

abbrev Read : Type 0
Read = Result (List StatementValue) Fault

abbrev good : List StatementValue → Read
good ss = Ok ss

abbrev bad : Fault → Read
bad fault = Err fault

same_good : (xs ys : List StatementValue) → good xs ≡ good ys → xs ≡ ys
same_good xs ys e = cc

same_bad : (f g : Fault) → bad f ≡ bad g → f ≡ g
same_bad f g e = cc

-- what was read, behind the statements done
abbrev onto : List StatementValue → Read → Read
onto done (Ok ss) = Ok (done ++ ss)
onto done (Err fault) = Err fault

onto_none : (r : Read) → onto [] r ≡ r
onto_none (Ok ss) = refl
onto_none (Err fault) = refl

onto_both : (xs ys : List StatementValue) (r : Read) → onto (xs ++ ys) r ≡ onto xs (onto ys r)
onto_both xs ys (Ok ss) = ap good (append_assoc xs ys ss)
onto_both xs ys (Err fault) = refl

-- ---- the parts of a source
wrong_at : ℕ → Part → FaultKind → Fault
wrong_at source p kind = record { kind = kind; source = source; line = p.line }

abbrev on_part : ℕ → Part → Result (List BodyValue) FaultKind → Result (List BodyValue) Fault
on_part source p (Ok bs) = Ok bs
on_part source p (Err kind) = Err (record { kind = kind; source = source; line = p.line })

-- what the last part gives
abbrev last_of : ℕ → Bool → Part → Result (List BodyValue) FaultKind → Read
last_of source false p r = Err (record { kind = faults.Token; source = source; line = p.line })
last_of source true p (Ok bs) = Ok (on_line source p.line bs)
last_of source true p (Err kind) = Err (record { kind = kind; source = source; line = p.line })

-- what a part gives before others
abbrev then_of : ℕ → Part → (List BodyValue → Read) → Result (List BodyValue) FaultKind → Read
then_of source p next (Ok bs) = onto (on_line source p.line bs) (next bs)
then_of source p next (Err kind) = Err (record { kind = kind; source = source; line = p.line })

abbrev reading : ℕ → Bool → Section → List Part → Read
reading source whole section [] = Ok []
reading source whole section (p ∷ []) = last_of source whole p (said_by_part section p)
reading source whole section (p ∷ q ∷ ps) = then_of source p (λ bs. reading source whole (section_after section bs) (q ∷ ps)) (said_by_part section p)

last_step : (whole : Bool) (place : Place) (done : List StatementValue) (p : Part) (r : Result (List BodyValue) FaultKind) → p.line ≡ place.line
    → at_the_end whole place (placed place done r) ≡ onto done (last_of place.source whole p r)
last_step false place done p r e = ap (λ n. bad (record { kind = faults.Token; source = place.source; line = n })) (sym e)
last_step true place done p (Ok bs) e = ap (λ n. good (done ++ on_line place.source n bs)) (sym e)
last_step true place done p (Err kind) e = ap (λ n. bad (record { kind = kind; source = place.source; line = n })) (sym e)

then_step : (place : Place) (done : List StatementValue) (p : Part) (next : List StatementValue × Section → Read) (more : List BodyValue → Read) (r : Result (List BodyValue) FaultKind) → p.line ≡ place.line
    → ((bs : List BodyValue) → next (done ++ on_line place.source place.line bs, section_after place.section bs) ≡ onto (done ++ on_line place.source place.line bs) (more bs))
    → (placed place done r >>= next) ≡ onto done (then_of place.source p more r)
then_step place done p next more (Ok bs) e h =
    h bs ∙ (onto_both done (on_line place.source place.line bs) (more bs) ∙ ap (λ n. onto done (onto (on_line place.source n bs) (more bs))) (sym e))
then_step place done p next more (Err kind) e h = ap (λ n. bad (record { kind = kind; source = place.source; line = n })) (sym e)

pub read_by_parts : (whole : Bool) (ps : List Part) (place : Place) (done : List StatementValue) (ls : List Lexeme) → AreParts place.line ls ps
    → source_from whole place done [] ls ≡ onto done (reading place.source whole place.section ps)
read_by_parts whole [] place done ls h = absurd h
read_by_parts whole (p ∷ []) place done ls h =
    ap (source_from whole place done []) h.2
    ∙ (goes_to_the_end whole place done [] p.lexemes h.1
    ∙ (ap (at_the_end whole place) (statement_is place done p) ∙ last_step whole place done p (said_by_part place.section p) h.0))
read_by_parts whole (p ∷ q ∷ ps) place done ls h =
    let end = h.2.0 in
    let rest = h.2.1 in
    let next = λ (r : List StatementValue × Section). source_from whole (next_place place end r.1) r.0 [] rest in
    ap (source_from whole place done []) h.2.3
    ∙ (goes_on whole place done [] p.lexemes end rest h.1 h.2.2
    ∙ (ap (λ r. r >>= next) (statement_is place done p)
    ∙ then_step place done p next (λ bs. reading place.source whole (section_after place.section bs) (q ∷ ps)) (said_by_part place.section p) h.0
    (λ bs. read_by_parts whole (q ∷ ps) (next_place place end (section_after place.section bs)) (done ++ on_line place.source place.line bs) rest h.2.4)))

-- ---- parts that say statements
onto_gives : (done : List StatementValue) (r : Read) (ss : List StatementValue) → onto done r ≡ Ok ss → (more : List StatementValue) × (r ≡ Ok more) × (ss ≡ done ++ more)
onto_gives done (Ok more) ss e = (more, refl, sym (same_good (done ++ more) ss e))
onto_gives done (Err fault) ss e = absurd cc

onto_fails : (done : List StatementValue) (r : Read) (fault : Fault) → onto done r ≡ Err fault → r ≡ Err fault
onto_fails done (Ok more) fault e = absurd cc
onto_fails done (Err other) fault e = e

last_says : (source : ℕ) (p : Part) (r : Result (List BodyValue) FaultKind) (ss : List StatementValue) → last_of source true p r ≡ Ok ss → (bs : List BodyValue) × (r ≡ Ok bs) × (ss ≡ on_line source p.line bs ++ [])
last_says source p (Ok bs) ss e = (bs, refl, sym (same_good (on_line source p.line bs) ss e) ∙ sym (append-nil (on_line source p.line bs)))
last_says source p (Err kind) ss e = absurd cc

then_says : (source : ℕ) (p : Part) (next : List BodyValue → Read) (r : Result (List BodyValue) FaultKind) (ss : List StatementValue) → then_of source p next r ≡ Ok ss
    → (bs : List BodyValue) × (more : List StatementValue) × (r ≡ Ok bs) × (ss ≡ on_line source p.line bs ++ more) × (next bs ≡ Ok more)
then_says source p next (Ok bs) ss e = let g = onto_gives (on_line source p.line bs) (next bs) ss e in (bs, g.0, refl, g.2, g.1)
then_says source p next (Err kind) ss e = absurd cc

parts_say : (source : ℕ) (section : Section) (ps : List Part) (ss : List StatementValue) → reading source true section ps ≡ Ok ss → PartsSay source section ps ss
parts_say source section [] ss e = sym (same_good [] ss e)
parts_say source section (p ∷ []) ss e = let g = last_says source p (said_by_part section p) ss e in (g.0, [], g.1, g.2, refl)
parts_say source section (p ∷ q ∷ ps) ss e =
    let g = then_says source p (λ bs. reading source true (section_after section bs) (q ∷ ps)) (said_by_part section p) ss e in
    (g.0, g.1, g.2, g.3, parts_say source (section_after section g.0) (q ∷ ps) g.1 g.4)

say_parts : (source : ℕ) (section : Section) (ps : List Part) (ss : List StatementValue) → PartsSay source section ps ss → reading source true section ps ≡ Ok ss
say_parts source section [] ss h = ap good (sym h)
say_parts source section (p ∷ []) ss h =
    ap (last_of source true p) h.2 ∙ ap good (sym (append-nil (on_line source p.line h.0)) ∙ (ap (λ xs. on_line source p.line h.0 ++ xs) (sym h.4) ∙ sym h.3))
say_parts source section (p ∷ q ∷ ps) ss h =
    ap (then_of source p (λ bs. reading source true (section_after section bs) (q ∷ ps))) h.2
    ∙ (ap (onto (on_line source p.line h.0)) (say_parts source (section_after section h.0) (q ∷ ps) h.1 h.4) ∙ ap good (sym h.3))

-- ---- parts of which one is wrong
then_fails : (source : ℕ) (p : Part) (next : List BodyValue → Read) (r : Result (List BodyValue) FaultKind) (fault : Fault) → then_of source p next r ≡ Err fault
    → ((kind : FaultKind) × (r ≡ Err kind) × (fault ≡ record { kind = kind; source = source; line = p.line })) ⊎ ((bs : List BodyValue) × (r ≡ Ok bs) × (next bs ≡ Err fault))
then_fails source p next (Ok bs) fault e = inr (bs, refl, onto_fails (on_line source p.line bs) (next bs) fault e)
then_fails source p next (Err kind) fault e = inl (kind, refl, sym (same_bad (record { kind = kind; source = source; line = p.line }) fault e))

last_fails : (source : ℕ) (p : Part) (r : Result (List BodyValue) FaultKind) (fault : Fault) → last_of source true p r ≡ Err fault
    → (kind : FaultKind) × (r ≡ Err kind) × (fault ≡ record { kind = kind; source = source; line = p.line })
last_fails source p (Ok bs) fault e = absurd cc
last_fails source p (Err kind) fault e = (kind, refl, sym (same_bad (record { kind = kind; source = source; line = p.line }) fault e))

parts_fail : (source : ℕ) (section : Section) (whole : Bool) (ps : List Part) (fault : Fault) → reading source whole section ps ≡ Err fault → PartsFail source section whole ps fault
parts_fail source section whole [] fault e = absurd cc
parts_fail source section false (p ∷ []) fault e = sym (same_bad (record { kind = faults.Token; source = source; line = p.line }) fault e)
parts_fail source section true (p ∷ []) fault e = last_fails source p (said_by_part section p) fault e
parts_fail source section whole (p ∷ q ∷ ps) fault e =
    elim (then_fails source p (λ bs. reading source whole (section_after section bs) (q ∷ ps)) (said_by_part section p) fault e) [
      | inl here ↦ inl here
      | inr next ↦ inr (next.0, next.1, parts_fail source (section_after section next.0) whole (q ∷ ps) fault next.2)
    ]

fail_parts : (source : ℕ) (section : Section) (whole : Bool) (ps : List Part) (fault : Fault) → PartsFail source section whole ps fault → reading source whole section ps ≡ Err fault
fail_parts source section whole [] fault h = absurd h
fail_parts source section false (p ∷ []) fault h = ap bad (sym h)
fail_parts source section true (p ∷ []) fault h = ap (last_of source true p) h.1 ∙ ap bad (sym h.2)
fail_parts source section whole (p ∷ q ∷ ps) fault (inl here) =
    ap (then_of source p (λ bs. reading source whole (section_after section bs) (q ∷ ps))) here.1 ∙ ap bad (sym here.2)
fail_parts source section whole (p ∷ q ∷ ps) fault (inr next) =
    ap (then_of source p (λ bs. reading source whole (section_after section bs) (q ∷ ps))) next.1
    ∙ ap (onto (on_line source p.line next.0)) (fail_parts source (section_after section next.0) whole (q ∷ ps) fault next.2)

-- where a text has a fault of a token, its parts say nothing
none_says : (source : ℕ) (section : Section) (ps : List Part) (line : ℕ) (ls : List Lexeme) (ss : List StatementValue) → AreParts line ls ps → reading source false section ps ≡ Ok ss → ⊥
none_says source section [] line ls ss h e = h
none_says source section (p ∷ []) line ls ss h e = cc
none_says source section (p ∷ q ∷ ps) line ls ss h e =
    let g = then_says source p (λ bs. reading source false (section_after section bs) (q ∷ ps)) (said_by_part section p) ss e in
    none_says source (section_after section g.0) (q ∷ ps) (line + lines_ended h.2.0) h.2.1 g.1 h.2.4 g.4

-- ---- a source
-- what a source alone gives
own_reading : ℕ → List ℕ → Read
own_reading source text = source_from (lexed 0 text).whole (first_place source) [] [] (lexed 0 text).lexemes

own_is : (source : ℕ) (text : List ℕ) (ps : List Part) → AreParts 1 (lexed 0 text).lexemes ps → own_reading source text ≡ reading source (lexed 0 text).whole sections.Text ps
unfolding own_reading
own_is source text ps h = read_by_parts (lexed 0 text).whole ps (first_place source) [] (lexed 0 text).lexemes h ∙ onto_none (reading source (lexed 0 text).whole sections.Text ps)

says_from : (source : ℕ) (text : List ℕ) (ps : List Part) (ss : List StatementValue) → AreParts 1 (lexed 0 text).lexemes ps → (b : Bool) → (lexed 0 text).whole ≡ b
    → reading source b sections.Text ps ≡ Ok ss → SourceSays source text ss
says_from source text ps ss are true w e = record { whole = w; parts = ps; are_parts = are; say = parts_say source sections.Text ps ss e }
says_from source text ps ss are false w e = absurd (none_says source sections.Text ps 1 (lexed 0 text).lexemes ss are e)

source_says : (source : ℕ) (text : List ℕ) (ss : List StatementValue) → own_reading source text ≡ Ok ss → SourceSays source text ss
source_says source text ss e =
    let cut = parts_exist 1 (lexed 0 text).lexemes in
    says_from source text cut.0 ss cut.1 (lexed 0 text).whole refl (sym (own_is source text cut.0 cut.1) ∙ e)

says_source : (source : ℕ) (text : List ℕ) (ss : List StatementValue) → SourceSays source text ss → own_reading source text ≡ Ok ss
says_source source text ss h =
    own_is source text h.parts h.are_parts ∙ (ap (λ b. reading source b sections.Text h.parts) h.whole ∙ say_parts source sections.Text h.parts ss h.say)

source_fails : (source : ℕ) (text : List ℕ) (fault : Fault) → own_reading source text ≡ Err fault → SourceFails source text fault
source_fails source text fault e =
    let cut = parts_exist 1 (lexed 0 text).lexemes in
    record { parts = cut.0; are_parts = cut.1; fail = parts_fail source sections.Text (lexed 0 text).whole cut.0 fault (sym (own_is source text cut.0 cut.1) ∙ e) }

fails_source : (source : ℕ) (text : List ℕ) (fault : Fault) → SourceFails source text fault → own_reading source text ≡ Err fault
fails_source source text fault h = own_is source text h.parts h.are_parts ∙ fail_parts source sections.Text (lexed 0 text).whole h.parts fault h.fail

-- ---- sources
begun_is : (source : ℕ) (done : List StatementValue) → begun source done ≡ done ++ beginning source
begun_is source done = by (source == 0)
  where
    by : (b : Bool) → cond b done (done ++ stated (first_place source) (bodies.Directive (directives.Section sections.Text)) ∷ [])
        ≡ done ++ cond b [] (record { source = source; line = 1; body = bodies.Directive (directives.Section sections.Text) } ∷ [])
    by true = sym (append-nil done)
    by false = refl

behind_done : (source : ℕ) (done : List StatementValue) (text : List ℕ) → source_statements source done (lexed 0 text) ≡ onto (done ++ beginning source) (own_reading source text)
behind_done source done text =
    let cut = parts_exist 1 (lexed 0 text).lexemes in
    read_by_parts (lexed 0 text).whole cut.0 (first_place source) (begun source done) (lexed 0 text).lexemes cut.1
    ∙ (ap (λ xs. onto xs (reading source (lexed 0 text).whole sections.Text cut.0)) (begun_is source done)
    ∙ ap (onto (done ++ beginning source)) (sym (own_is source text cut.0 cut.1)))

-- what sources give one behind the other
abbrev then_more : List StatementValue → (List StatementValue → Read) → Read → Read
then_more begin next (Ok own) = onto (begin ++ own) (next own)
then_more begin next (Err fault) = Err fault

abbrev readings : ℕ → List (List ℕ) → Read
readings source [] = Ok []
readings source (text ∷ texts) = then_more (beginning source) (λ own. readings (source + 1) texts) (own_reading source text)

more_step : (done begin : List StatementValue) (next : List StatementValue → Read) (more : Read) (r : Read) → ((xs : List StatementValue) → next xs ≡ onto xs more)
    → (onto (done ++ begin) r >>= next) ≡ onto done (then_more begin (λ own. more) r)
more_step done begin next more (Ok own) h = h ((done ++ begin) ++ own) ∙ (ap (λ xs. onto xs more) (append_assoc done begin own) ∙ onto_both done (begin ++ own) more)
more_step done begin next more (Err fault) h = refl

all_read : (source : ℕ) (done : List StatementValue) (texts : List (List ℕ)) → sources_from source done texts ≡ onto done (readings source texts)
unfolding sources_from
all_read source done [] = ap good (sym (append-nil done))
all_read source done (text ∷ texts) =
    ap (λ r. r >>= λ more. sources_from (source + 1) more texts) (behind_done source done text)
    ∙ more_step done (beginning source) (λ more. sources_from (source + 1) more texts) (readings (source + 1) texts) (own_reading source text)
    (λ xs. all_read (source + 1) xs texts)

statements_are : (texts : List (List ℕ)) → statements_of texts ≡ readings 0 texts
unfolding statements_of
statements_are texts = all_read 0 [] texts ∙ onto_none (readings 0 texts)

more_gives : (begin : List StatementValue) (next : Read) (r : Read) (ss : List StatementValue) → then_more begin (λ own. next) r ≡ Ok ss
    → (own : List StatementValue) × (more : List StatementValue) × (r ≡ Ok own) × (ss ≡ begin ++ (own ++ more)) × (next ≡ Ok more)
more_gives begin next (Ok own) ss e = let g = onto_gives (begin ++ own) next ss e in (own, g.0, refl, g.2 ∙ append_assoc begin own g.0, g.1)
more_gives begin next (Err fault) ss e = absurd cc

more_fails : (begin : List StatementValue) (next : Read) (r : Read) (fault : Fault) → then_more begin (λ own. next) r ≡ Err fault
    → (r ≡ Err fault) ⊎ ((own : List StatementValue) × (r ≡ Ok own) × (next ≡ Err fault))
more_fails begin next (Ok own) fault e = inr (own, refl, onto_fails (begin ++ own) next fault e)
more_fails begin next (Err other) fault e = inl e

texts_say : (source : ℕ) (texts : List (List ℕ)) (ss : List StatementValue) → readings source texts ≡ Ok ss → TextsSay source texts ss
texts_say source [] ss e = sym (same_good [] ss e)
texts_say source (text ∷ texts) ss e =
    let g = more_gives (beginning source) (readings (source + 1) texts) (own_reading source text) ss e in
    (g.0, g.1, source_says source text g.0 g.2, g.3, texts_say (source + 1) texts g.1 g.4)

say_texts : (source : ℕ) (texts : List (List ℕ)) (ss : List StatementValue) → TextsSay source texts ss → readings source texts ≡ Ok ss
say_texts source [] ss h = ap good (sym h)
say_texts source (text ∷ texts) ss h =
    ap (then_more (beginning source) (λ own. readings (source + 1) texts)) (says_source source text h.0 h.2)
    ∙ (ap (onto (beginning source ++ h.0)) (say_texts (source + 1) texts h.1 h.4) ∙ ap good (append_assoc (beginning source) h.0 h.1 ∙ sym h.3))

texts_fail : (source : ℕ) (texts : List (List ℕ)) (fault : Fault) → readings source texts ≡ Err fault → TextsFail source texts fault
texts_fail source [] fault e = absurd cc
texts_fail source (text ∷ texts) fault e =
    elim (more_fails (beginning source) (readings (source + 1) texts) (own_reading source text) fault e) [
      | inl here ↦ inl (source_fails source text fault here)
      | inr next ↦ inr (next.0, source_says source text next.0 next.1, texts_fail (source + 1) texts fault next.2)
    ]

fail_texts : (source : ℕ) (texts : List (List ℕ)) (fault : Fault) → TextsFail source texts fault → readings source texts ≡ Err fault
fail_texts source [] fault h = absurd h
fail_texts source (text ∷ texts) fault (inl here) = ap (then_more (beginning source) (λ own. readings (source + 1) texts)) (fails_source source text fault here)
fail_texts source (text ∷ texts) fault (inr next) =
    ap (then_more (beginning source) (λ own. readings (source + 1) texts)) (says_source source text next.0 next.1)
    ∙ ap (onto (beginning source ++ next.0)) (fail_texts (source + 1) texts fault next.2)

-- ---- the laws
pub ok_iff : (texts : List (List ℕ)) (ss : List StatementValue) → (statements_of texts ≡ Ok ss) ↔ TextsSay 0 texts ss
ok_iff texts ss = (λ e. texts_say 0 texts ss (sym (statements_are texts) ∙ e), λ h. statements_are texts ∙ say_texts 0 texts ss h)

pub err_iff : (texts : List (List ℕ)) (fault : Fault) → (statements_of texts ≡ Err fault) ↔ TextsFail 0 texts fault
err_iff texts fault = (λ e. texts_fail 0 texts fault (sym (statements_are texts) ∙ e), λ h. statements_are texts ∙ fail_texts 0 texts fault h)

no_both : (ss : List StatementValue) (fault : Fault) → good ss ≡ bad fault → ⊥
no_both ss fault e = cc

answered_by : (texts : List (List ℕ)) (r : Read) → statements_of texts ≡ r → ((ss : List StatementValue) × TextsSay 0 texts ss) ⊎ ((fault : Fault) × TextsFail 0 texts fault)
answered_by texts (Ok ss) e = inl (ss, (ok_iff texts ss).0 e)
answered_by texts (Err fault) e = inr (fault, (err_iff texts fault).0 e)

pub decided : (texts : List (List ℕ)) → IsDecided texts
decided texts = record {
  answered = answered_by texts (statements_of texts) refl;
  once = λ ss more h g. same_good ss more (sym ((ok_iff texts ss).1 h) ∙ (ok_iff texts more).1 g);
  one_fault = λ fault other h g. same_bad fault other (sym ((err_iff texts fault).1 h) ∙ (err_iff texts other).1 g);
  not_both = λ ss fault h g. no_both ss fault (sym ((ok_iff texts ss).1 h) ∙ (err_iff texts fault).1 g);
}
