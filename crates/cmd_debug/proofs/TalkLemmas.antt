-- How a conversation goes on.
use Rattle.std.proofs.Common.{refl, append_assoc, append-nil, ◌≡◌, ℕ, ◌+◌, ◌<◌, ◌≤◌, ◌==◌, nat_lt, Bool, true, false, List, [], ◌∷◌, ◌++◌, length, take, Option, Some, None, IfSome, if◌then◌else◌, arith, rules, ap, sym, subst, ⊎_elim, ◌∙◌}
use Rattle.std.proofs.KnownBytes.{Appends-nil, Appends-trans}
use Rattle.std.proofs.Math.Seq.{take-append-add, take-append_seam}
use Rattle.std.proofs.lemmas.Bool.{cases_lt}
use Rattle.std.proofs.lemmas.Grind.{common_steps}
use Rattle.std.proofs.lemmas.List.{length-take, take-append-le, take_all}
use Rattle.std.proofs.lemmas.List.Splits.{length-slice_split, slice_split-cons_no}
use Rattle.std.specs.Io.KnownBytes.{Appends}
use Rattle.std.specs.List.{onto_first, slice_split}
use Rattle.std.specs.Str.Lines.{lines, lines_of_parts, strip_carriage_return}
use Rattle.elf_read.specs.Symbol.{SymbolValue}
use Rattle.debug_session.specs.Session.{Session}
use Rattle.debug_text.specs.Reply.{Outcome}
use Rattle.cmd_debug.specs.Lines.{has_no_end, TakesEnded, TakesLast, TakesLine, TakesNone}
use Rattle.cmd_debug.specs.Talk.{answers, outcome_to, BeginsTalk}

abbrev ends_line : ℕ → Bool
ends_line b = b == 10

no_end : (b : ℕ) (bs : List ℕ) → has_no_end (b ∷ bs) ≡ true → (b == 10) ≡ false
no_end b bs plain = search (rules, common_steps)

plain_rest : (b : ℕ) (bs : List ℕ) → has_no_end (b ∷ bs) ≡ true → has_no_end bs ≡ true
plain_rest b bs plain = search (rules, common_steps)

-- a line, its end and the rest
split_at_end : (bytes rest : List ℕ) → has_no_end bytes ≡ true → slice_split ends_line (bytes ++ 10 ∷ rest) ≡ bytes ∷ slice_split ends_line rest
split_at_end [] rest plain = refl
split_at_end (b ∷ bs) rest plain =
    slice_split-cons_no ends_line b (bs ++ 10 ∷ rest) (no_end b bs plain) ∙ ap (onto_first b) (split_at_end bs rest (plain_rest b bs plain))

-- a line without an end
split_whole : (bytes : List ℕ) → has_no_end bytes ≡ true → slice_split ends_line bytes ≡ bytes ∷ []
split_whole [] plain = refl
split_whole (b ∷ bs) plain = slice_split-cons_no ends_line b bs (no_end b bs plain) ∙ ap (onto_first b) (split_whole bs (plain_rest b bs plain))

before_others : (part : List ℕ) (parts : List (List ℕ)) → 0 < length parts → lines_of_parts (part ∷ parts) ≡ strip_carriage_return part ∷ lines_of_parts parts
before_others part [] some = absurd (omega arith)
before_others part (next ∷ more) some = refl

lines_first : (bytes rest : List ℕ) → has_no_end bytes ≡ true → lines (bytes ++ 10 ∷ rest) ≡ strip_carriage_return bytes ∷ lines rest
lines_first bytes rest plain =
    let some : 0 < length (slice_split ends_line rest) = omega (arith, length-slice_split ends_line rest) in
    ap lines_of_parts (split_at_end bytes rest plain) ∙ before_others bytes (slice_split ends_line rest) some

last_part : (bytes : List ℕ) → 0 < length bytes → lines_of_parts (bytes ∷ []) ≡ bytes ∷ []
last_part [] some = absurd (omega arith)
last_part (b ∷ bs) some = search (rules, common_steps)

lines_last : (bytes : List ℕ) → has_no_end bytes ≡ true → 0 < length bytes → lines bytes ≡ bytes ∷ []
lines_last bytes plain some = ap lines_of_parts (split_whole bytes plain) ∙ last_part bytes some

-- what is shown from a line on
abbrev pub shown_on : List SymbolValue → Outcome → List (List ℕ) → List ℕ
shown_on symbols outcome others = outcome.text ++ (if outcome.ended then [] else answers symbols outcome.after others)

answers_first : (symbols : List SymbolValue) (s : Session) (rest after line : List ℕ) → TakesLine (Some rest) (Some after) line
    → answers symbols s (lines rest) ≡ shown_on symbols (outcome_to symbols s line) (lines after)
answers_first symbols s rest after line took = ⊎_elim
    (λ (t : TakesEnded (Some rest) (Some after) line).
    let split : lines rest ≡ strip_carriage_return t.bytes ∷ lines after
    = ap lines (t.took ∙ append_assoc t.bytes (10 ∷ []) after) ∙ lines_first t.bytes after t.plain in
    ap (answers symbols s) split ∙ ap (λ xs. shown_on symbols (outcome_to symbols s xs) (lines after)) (sym t.is))
    (λ (t : TakesLast (Some rest) (Some after) line).
    let whole : rest ≡ line = t.took ∙ ap (λ xs. line ++ xs) t.end ∙ append-nil line in
    let split : lines rest ≡ line ∷ lines after
    = ap lines whole ∙ lines_last line t.plain t.some ∙ ap (λ xs. line ∷ lines xs) (sym t.end) in
    ap (answers symbols s) split)
    took

-- what is shown of the whole input is what was shown, and then what is shown of the rest in this
-- session
abbrev pub AnswersLeft : List SymbolValue → Session → Option (List ℕ) → Option (List ℕ) → List ℕ → Session → Type 0
AnswersLeft symbols first None rest done s = Unit {0}
AnswersLeft symbols first (Some input) None done s = ⊥
AnswersLeft symbols first (Some input) (Some rest) done s = answers symbols first (lines input) ≡ done ++ answers symbols s (lines rest)

takes_known : (rest line : List ℕ) → TakesLine (Some rest) None line → ⊥
takes_known rest line took = ⊎_elim (λ (t : TakesEnded (Some rest) None line). t.took) (λ (t : TakesLast (Some rest) None line). t.took) took

left_on : (symbols : List SymbolValue) (first : Session) (input l0 l1 : Option (List ℕ)) (s after : Session) (line text done : List ℕ)
    → AnswersLeft symbols first input l0 done s → TakesLine l0 l1 line
    → outcome_to symbols s line ≡ record { text = text; after = after; ended = false }
    → AnswersLeft symbols first input l1 (done ++ text) after
left_on symbols first None l0 l1 s after line text done left took outcome = tt
left_on symbols first (Some input) None l1 s after line text done left took outcome = absurd left
left_on symbols first (Some input) (Some rest) None s after line text done left took outcome = absurd (takes_known rest line took)
left_on symbols first (Some input) (Some rest) (Some others) s after line text done left took outcome =
    left ∙ ap (λ xs. done ++ xs) (answers_first symbols s rest others line took ∙ ap (λ o. shown_on symbols o (lines others)) outcome)
    ∙ sym (append_assoc done text (answers symbols after (lines others)))

-- the lines so far were answered, and the rest is still to be answered in this session
pub record IsAnswered (symbols : List SymbolValue) (first : Session) (input rest old now : Option (List ℕ)) (s : Session) : Type 0 where
  pub done : List ℕ
  pub wrote : Appends old now done
  pub left : AnswersLeft symbols first input rest done s

pub starts : (symbols : List SymbolValue) (s : Session) (input old : Option (List ℕ)) → IsAnswered symbols s input input old old s
starts symbols s None old = record { done = []; wrote = Appends-nil old; left = tt }
starts symbols s (Some input) old = record { done = []; wrote = Appends-nil old; left = refl }

-- a line was answered, and the session goes on
pub goes_on : (symbols : List SymbolValue) (first : Session) (input l0 l1 old k0 k1 : Option (List ℕ)) (s after : Session) (line text : List ℕ)
    → IsAnswered symbols first input l0 old k0 s → TakesLine l0 l1 line
    → outcome_to symbols s line ≡ record { text = text; after = after; ended = false } → Appends k0 k1 text
    → IsAnswered symbols first input l1 old k1 after
goes_on symbols first input l0 l1 old k0 k1 s after line text so_far took outcome wrote = record {
  done = so_far.done ++ text;
  wrote = Appends-trans old k0 k1 so_far.done text so_far.wrote wrote;
  left = left_on symbols first input l0 l1 s after line text so_far.done so_far.left took outcome;
}

-- the last line was answered
pub is_done : (symbols : List SymbolValue) (first : Session) (input l0 l1 old now : Option (List ℕ)) (s : Session)
    → IsAnswered symbols first input l0 old now s → TakesNone l0 l1
    → IfSome input (λ xs. Appends old now (answers symbols first (lines xs)))
is_done symbols first None l0 l1 old now s so_far (took, end) = tt
is_done symbols first (Some input) None l1 old now s so_far (took, end) = absurd so_far.left
is_done symbols first (Some input) (Some rest) None old now s so_far (took, end) = absurd took
is_done symbols first (Some input) (Some rest) (Some after) old now s so_far (took, end) =
    let none : rest ≡ [] = took ∙ end in
    let all : answers symbols first (lines input) ≡ so_far.done
    = so_far.left ∙ ap (λ xs. so_far.done ++ answers symbols s (lines xs)) none ∙ append-nil so_far.done in
    subst (Appends old now) (sym all) so_far.wrote

-- a line has ended the session
pub is_ended : (symbols : List SymbolValue) (first : Session) (input l0 l1 old now : Option (List ℕ)) (s after : Session) (line : List ℕ)
    → IsAnswered symbols first input l0 old now s → TakesLine l0 l1 line
    → outcome_to symbols s line ≡ record { text = []; after = after; ended = true }
    → IfSome input (λ xs. Appends old now (answers symbols first (lines xs)))
is_ended symbols first None l0 l1 old now s after line so_far took outcome = tt
is_ended symbols first (Some input) None l1 old now s after line so_far took outcome = absurd so_far.left
is_ended symbols first (Some input) (Some rest) None old now s after line so_far took outcome = absurd (takes_known rest line took)
is_ended symbols first (Some input) (Some rest) (Some more) old now s after line so_far took outcome =
    let all : answers symbols first (lines input) ≡ so_far.done
    = so_far.left ∙ ap (λ xs. so_far.done ++ xs) (answers_first symbols s rest more line took ∙ ap (λ o. shown_on symbols o (lines more)) outcome) ∙ append-nil so_far.done in
    subst (Appends old now) (sym all) so_far.wrote

-- what was written is a beginning
pub has_begun : (symbols : List SymbolValue) (first : Session) (input rest old now : Option (List ℕ)) (s : Session)
    → IsAnswered symbols first input rest old now s → IfSome input (λ xs. BeginsTalk old now (answers symbols first (lines xs)))
has_begun symbols first None rest old now s so_far = tt
has_begun symbols first (Some input) None old now s so_far = absurd so_far.left
has_begun symbols first (Some input) (Some rest) old now s so_far =
    let front : take (length so_far.done) (answers symbols first (lines input)) ≡ so_far.done
    = ap (take (length so_far.done)) so_far.left ∙ take-append_seam so_far.done (answers symbols s (lines rest)) in
    (length so_far.done, subst (Appends old now) (sym front) so_far.wrote)

part_of : (n : ℕ) (text more : List ℕ) → (m : ℕ) × (take m (text ++ more) ≡ take n text)
part_of n text more = ⊎_elim
    (λ (few : n < length text + 1). (n, take-append-le n text more (omega (arith, few))))
    (λ (many : length text + 1 ≤ n). (length text, take-append_seam text more ∙ sym (take_all n text (omega (arith, many)))))
    (cases_lt n (length text + 1))

-- an answer was written in part
pub is_cut : (symbols : List SymbolValue) (first : Session) (input l0 l1 old k0 k1 : Option (List ℕ)) (s after : Session) (line text : List ℕ) (n : ℕ)
    → IsAnswered symbols first input l0 old k0 s → TakesLine l0 l1 line
    → outcome_to symbols s line ≡ record { text = text; after = after; ended = false } → Appends k0 k1 (take n text)
    → IfSome input (λ xs. BeginsTalk old k1 (answers symbols first (lines xs)))
is_cut symbols first None l0 l1 old k0 k1 s after line text n so_far took outcome wrote = tt
is_cut symbols first (Some input) None l1 old k0 k1 s after line text n so_far took outcome wrote = absurd so_far.left
is_cut symbols first (Some input) (Some rest) None old k0 k1 s after line text n so_far took outcome wrote = absurd (takes_known rest line took)
is_cut symbols first (Some input) (Some rest) (Some others) old k0 k1 s after line text n so_far took outcome wrote =
    let more : List ℕ = answers symbols after (lines others) in
    let part = part_of n text more in
    let all : answers symbols first (lines input) ≡ so_far.done ++ (text ++ more)
    = so_far.left ∙ ap (λ xs. so_far.done ++ xs) (answers_first symbols s rest others line took ∙ ap (λ o. shown_on symbols o (lines others)) outcome) in
    let front : take (length so_far.done + part.0) (answers symbols first (lines input)) ≡ so_far.done ++ take n text
    = ap (take (length so_far.done + part.0)) all ∙ take-append-add so_far.done (text ++ more) part.0 ∙ ap (λ xs. so_far.done ++ xs) part.1 in
    (length so_far.done + part.0, subst (Appends old k1) (sym front) (Appends-trans old k0 k1 so_far.done (take n text) so_far.wrote wrote))
