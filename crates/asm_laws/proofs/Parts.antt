-- Texts cut at the ends of statements, and what the reader gives of their parts.
use Rattle.std.proofs.Common.{◌≡◌, ℕ, ◌+◌, Bool, true, false, cond, List, [], ◌∷◌, ◌++◌, Option, Some, None, IfSome, Result, Ok, Err, refl, sym, ap, ◌∙◌, append_assoc, append-nil}
use Rattle.std.specs.List.{list_all}
use Rattle.std.specs.Char.{is_ascii_digit}
use Rattle.asm_lex.specs.Lexemes.{Lexeme, Word, Number, Colon}
use Rattle.asm_statement.specs.declared.fault.Fault.{Fault}
use Rattle.asm_statement.specs.declared.fault.FaultKind.{FaultKind}
use Rattle.asm_statement.specs.declared.place.Place.{Place}
use Rattle.asm_statement.specs.declared.statement.Section.{Section}
use Rattle.asm_statement.specs.declared.statement.Body.TheVariants as bodies
use Rattle.asm_statement.specs.Answer.{◌>>=◌}
use Rattle.asm_statement.specs.Statement.{StatementValue, BodyValue}
use Rattle.asm_statement.specs.Statements.{body, stated, fault_at, label_of, with_label, labels_from, section_behind, after_body, statement_from, ends_statement, lines_ended, next_place, at_the_end, source_from}
use Rattle.asm_laws.specs.Reads.{Part, HasNoEnd, AreParts, behind_label, labelled, with_body, said_by_part, section_after, on_line}

-- ---- a text has parts
first_longer : (line : ℕ) (l : Lexeme) (ls : List Lexeme) (ps : List Part) → ends_statement l ≡ false → AreParts line ls ps → (qs : List Part) × AreParts line (l ∷ ls) qs
first_longer line l ls [] e h = absurd h
first_longer line l ls (p ∷ []) e h = (record { line = line; lexemes = l ∷ p.lexemes } ∷ [], (refl, (e, h.1), ap (λ xs. l ∷ xs) h.2))
first_longer line l ls (p ∷ q ∷ ps) e h =
    (record { line = line; lexemes = l ∷ p.lexemes } ∷ q ∷ ps, (refl, (e, h.1), (h.2.0, h.2.1, h.2.2, ap (λ xs. l ∷ xs) h.2.3, h.2.4)))

one_more : (line : ℕ) (l : Lexeme) (ls : List Lexeme) (ps : List Part) → ends_statement l ≡ true → AreParts (line + lines_ended l) ls ps → (qs : List Part) × AreParts line (l ∷ ls) qs
one_more line l ls [] e h = absurd h
one_more line l ls (q ∷ ps) e h = (record { line = line; lexemes = [] } ∷ q ∷ ps, (refl, tt, (l, ls, e, refl, h)))

pub parts_exist : (line : ℕ) (ls : List Lexeme) → (ps : List Part) × AreParts line ls ps
parts_exist line [] = (record { line = line; lexemes = [] } ∷ [], (refl, tt, refl))
parts_exist line (l ∷ ls) = by (ends_statement l) refl (parts_exist line ls) (parts_exist (line + lines_ended l) ls)
  where
    by : (b : Bool) → ends_statement l ≡ b → ((ps : List Part) × AreParts line ls ps) → ((ps : List Part) × AreParts (line + lines_ended l) ls ps) → (qs : List Part) × AreParts line (l ∷ ls) qs
    by true e here next = one_more line l ls next.0 e next.1
    by false e here next = first_longer line l ls here.0 e here.1

-- ---- labels
stays : (section : Section) (ls : List Lexeme) → IfSome (label_of ls) (λ b. section_behind section b ≡ section)
unfolding label_of
stays section (Word w ∷ Colon ∷ ls) = refl
stays section (Number n w ∷ Colon ∷ ls) = by (list_all is_ascii_digit w)
  where
    by : (b : Bool) → IfSome (cond b (Some (bodies.LocalLabel w)) None) (λ b. section_behind section b ≡ section)
    by true = refl
    by false = tt
stays section _ = tt

label_stays : (section : Section) (o : Option BodyValue) (more : List BodyValue × List Lexeme) (ls : List Lexeme) → IfSome o (λ b. section_behind section b ≡ section)
    → section_after section more.0 ≡ section → section_after section (behind_label o more ([], ls)).0 ≡ section
label_stays section (Some b) more ls e h = ap (λ s. section_after s more.0) e ∙ h
label_stays section None more ls e h = refl

labels_stay : (section : Section) (ls : List Lexeme) → section_after section (labelled ls).0 ≡ section
unfolding labelled
labels_stay section [] = refl
labels_stay section (l ∷ []) = refl
labels_stay section (l ∷ m ∷ ls) = label_stays section (label_of (l ∷ m ∷ ls)) (labelled ls) (l ∷ m ∷ ls) (stays section (l ∷ m ∷ ls)) (labels_stay section ls)

abbrev Labels : Type 0
Labels = List StatementValue × List Lexeme

onto_labels : Place → List StatementValue → List BodyValue × List Lexeme → Labels
onto_labels place done l = (done ++ on_line place.source place.line l.0, l.1)

none_onto : (place : Place) (done : List StatementValue) (ls : List Lexeme) → (done, ls) ≡ onto_labels place done ([], ls)
unfolding onto_labels
none_onto place done ls = ap (λ xs. (xs, ls)) (sym (append-nil done))

label_step : (place : Place) (done : List StatementValue) (o : Option BodyValue) (next : BodyValue → Labels) (more : List BodyValue × List Lexeme) (ls : List Lexeme)
    → ((b : BodyValue) → next b ≡ onto_labels place (done ++ stated place b ∷ []) more) → with_label o next (done, ls) ≡ onto_labels place done (behind_label o more ([], ls))
unfolding onto_labels
label_step place done (Some b) next more ls h = h b ∙ ap (λ xs. (xs, more.1)) (append_assoc done (stated place b ∷ []) (on_line place.source place.line more.0))
label_step place done None next more ls h = ap (λ xs. (xs, ls)) (sym (append-nil done))

labels_are : (place : Place) (done : List StatementValue) (ls : List Lexeme) → labels_from place done ls ≡ onto_labels place done (labelled ls)
unfolding labels_from labelled
labels_are place done [] = none_onto place done []
labels_are place done (l ∷ []) = none_onto place done (l ∷ [])
labels_are place done (l ∷ m ∷ ls) =
    label_step place done (label_of (l ∷ m ∷ ls)) (λ b. labels_from place (done ++ stated place b ∷ []) ls) (labelled ls) (l ∷ m ∷ ls)
    (λ b. labels_are place (done ++ stated place b ∷ []) ls)

-- ---- a part
abbrev Stated : Type 0
Stated = Result (List StatementValue × Section) Fault

-- what is said, behind the statements done
abbrev pub placed : Place → List StatementValue → Result (List BodyValue) FaultKind → Stated
placed place done (Ok bs) = Ok (done ++ on_line place.source place.line bs, section_after place.section bs)
placed place done (Err kind) = Err (fault_at place kind)

after_both : (section : Section) (xs : List BodyValue) (b : BodyValue) → section_after section (xs ++ b ∷ []) ≡ section_behind (section_after section xs) b
after_both section [] b = refl
after_both section (x ∷ xs) b = after_both (section_behind section x) xs b

line_both : (place : Place) (xs : List BodyValue) (b : BodyValue) → on_line place.source place.line xs ++ stated place b ∷ [] ≡ on_line place.source place.line (xs ++ b ∷ [])
line_both place [] b = refl
line_both place (x ∷ xs) b = ap (λ ys. stated place x ∷ ys) (line_both place xs b)

body_step : (place : Place) (done : List StatementValue) (labels : List BodyValue) (r : Result (Option BodyValue) FaultKind) → section_after place.section labels ≡ place.section
    → after_body place (done ++ on_line place.source place.line labels) r ≡ placed place done (with_body labels r)
body_step place done labels (Ok None) e = ap (λ s. stateds (done ++ on_line place.source place.line labels) s) (sym e)
  where
    stateds : List StatementValue → Section → Stated
    stateds xs s = Ok (xs, s)
body_step place done labels (Ok (Some b)) e =
    ap (λ xs. stateds xs (section_behind place.section b)) (append_assoc done (on_line place.source place.line labels) (stated place b ∷ []) ∙ ap (λ xs. done ++ xs) (line_both place labels b))
    ∙ ap (λ s. stateds (done ++ on_line place.source place.line (labels ++ b ∷ [])) s) (ap (λ s. section_behind s b) (sym e) ∙ sym (after_both place.section labels b))
  where
    stateds : List StatementValue → Section → Stated
    stateds xs s = Ok (xs, s)
body_step place done labels (Err kind) e = refl

abbrev finished : Place → Labels → Stated
finished place labels = after_body place labels.0 (body place.section labels.1)

pub statement_is : (place : Place) (done : List StatementValue) (p : Part) → statement_from place done p.lexemes ≡ placed place done (said_by_part place.section p)
unfolding statement_from onto_labels
statement_is place done p =
    ap (finished place) (labels_are place done p.lexemes)
    ∙ body_step place done (labelled p.lexemes).0 (body place.section (labelled p.lexemes).1) (labels_stay place.section p.lexemes)

-- ---- parts one behind the other
abbrev Read : Type 0
Read = Result (List StatementValue) Fault

pub goes_on : (whole : Bool) (place : Place) (done : List StatementValue) (part xs : List Lexeme) (end : Lexeme) (rest : List Lexeme) → HasNoEnd xs → ends_statement end ≡ true
    → source_from whole place done part (xs ++ end ∷ rest) ≡ (statement_from place done (part ++ xs) >>= λ r. source_from whole (next_place place end r.1) r.0 [] rest)
unfolding source_from
goes_on whole place done part [] end rest h e =
    rw e (ap (λ ls. statement_from place done ls >>= λ r. source_from whole (next_place place end r.1) r.0 [] rest) (sym (append-nil part)))
goes_on whole place done part (x ∷ xs) end rest h e =
    rw h.0 (goes_on whole place done (part ++ x ∷ []) xs end rest h.1 e
    ∙ ap (λ ls. statement_from place done ls >>= λ r. source_from whole (next_place place end r.1) r.0 [] rest) (append_assoc part (x ∷ []) xs))

pub goes_to_the_end : (whole : Bool) (place : Place) (done : List StatementValue) (part xs : List Lexeme) → HasNoEnd xs
    → source_from whole place done part xs ≡ at_the_end whole place (statement_from place done (part ++ xs))
unfolding source_from
goes_to_the_end whole place done part [] h = ap (λ ls. at_the_end whole place (statement_from place done ls)) (sym (append-nil part))
goes_to_the_end whole place done part (x ∷ xs) h =
    rw h.0 (goes_to_the_end whole place done (part ++ x ∷ []) xs h.1 ∙ ap (λ ls. at_the_end whole place (statement_from place done ls)) (append_assoc part (x ∷ []) xs))
