-- The first fault of a text is at the first place at which no token stands.
use Rattle.std.proofs.Common.{◌≡◌, ℕ, zero, suc, ◌+◌, ◌-◌, ◌<◌, ◌≤◌, inl, inr, Bool, true, false, List, [], ◌∷◌, ◌++◌, length, take, drop, Option, Some, None, Ok, Err, refl, sym, ap, subst, ◌∙◌, arith, add-zero, one-add, length-append, length-take-le, take-append-drop, get_or-take, true≢false, eqb-true}
use Rattle.std.specs.Prelude.{◌==◌, ◌&&◌, ◌||◌, ◌↔◌, if◌then◌else◌, nat_lt, slice_index}
use Rattle.std.specs.Char.{is_ascii_alphabetic}
use Rattle.std.specs.List.{prefix_len, list_all}
use Rattle.std.proofs.lemmas.Bool.{cases_Bool}
use Rattle.std.proofs.lemmas.List.{drop_at}
use Rattle.asm_lex.specs.Bytes.{is_digit, is_name_byte, is_space_or_tab, is_printable}
use Rattle.asm_lex.specs.Grammar.{IsComment}
use Rattle.asm_lex.specs.Numbers.{digits_number}
use Rattle.asm_lex.specs.Pieces.{front, sign_of, run_of_names, comment_len, closing, reference_of, number_piece, word_piece, text_piece, return_piece}
use Rattle.asm_lex.specs.Reading.{Reading, with_piece, reading, tokens_or_fault, result_of_reading}
use Rattle.asm_lex.specs.declared.fault.TextFault.{TextFault}
use Rattle.asm_lex.specs.declared.fault.TextFault.TheVariants as faults
use Rattle.asm_lex.specs.declared.piece.Piece.{Piece}
use Rattle.asm_lex.specs.declared.piece.Piece.TheVariants as pieces
use Rattle.asm_lex.specs.declared.token.Kind.{Kind}
use Rattle.asm_lex.specs.declared.token.Kind.TheVariants as kinds
use Rattle.asm_lex.specs.declared.token.Token.{Token}
use Rattle.asm_lex.proofs.Found.{IsGap, IsPiece, front_found}
use Rattle.asm_lex.proofs.Steps.{stepped, behind_piece}
use Rattle.asm_lex.proofs.Unique.{lexeme_front, comment_front, blank_front}
use Rattle.asm_laws.specs.Tokens.{HasNoToken, token_fault, StopsWith, Here, BehindBlank, BehindComment, BehindToken}

-- ---- the piece of a token
hash_piece : (rest : List ℕ) → front (35 ∷ rest) ≡ pieces.Gap (1 + comment_len rest)
unfolding front
hash_piece rest = refl

-- ---- the fault of a piece is that of its first byte
abbrev IsFaultOf : ℕ → Piece → Type 0
IsFaultOf b (pieces.Gap n) = Unit {0}
IsFaultOf b (pieces.Lexeme kind n) = Unit {0}
IsFaultOf b pieces.BadChar = ((b == 34) ≡ false) × (is_digit b ≡ false)
IsFaultOf b pieces.BadNumber = ((b == 34) ≡ false) × (is_digit b ≡ true)
IsFaultOf b pieces.OpenText = (b == 34) ≡ true

by_test : (P : Piece → Type 0) (t : Bool) (x y : Piece) → (t ≡ true → P x) → (t ≡ false → P y) → P (if t then x else y)
by_test P true x y f g = f refl
by_test P false x y f g = g refl

second_false : (a b c d e : Bool) → (a || b || c || d || e) ≡ false → b ≡ false
second_false true b c d e h = absurd (true≢false h)
second_false false true c d e h = absurd (true≢false h)
second_false false false c d e h = refl

no_digit : (b : ℕ) → is_name_byte b ≡ false → is_digit b ≡ false
no_digit b h = second_false (is_ascii_alphabetic b) (is_digit b) (b == 95) (b == 46) (b == 36) h

return_fault : (b : ℕ) (bs : List ℕ) → b ≡ 13 → IsFaultOf b (return_piece bs)
return_fault b [] e = rw e (refl, refl)
return_fault b (c ∷ bs) e = by_test (IsFaultOf b) (c == 10) (pieces.Lexeme kinds.LineEnd 2) pieces.BadChar (λ _. tt) (λ _. rw e (refl, refl))

string_fault : (b : ℕ) (o : Option ℕ) → (b == 34) ≡ true → IsFaultOf b (text_piece o)
string_fault b None quote = quote
string_fault b (Some n) quote = tt

reference_fault : (b : ℕ) (word : List ℕ) → (b == 34) ≡ false → is_digit b ≡ true → IsFaultOf b (reference_of word)
unfolding reference_of
reference_fault b word no_quote digit =
    let digits = length word - 1 in
    let last = slice_index word digits in
    let ahead : Piece = if last == 102 then pieces.Lexeme kinds.Ahead (length word) else pieces.BadNumber in
    let back : Piece = if last == 98 then pieces.Lexeme kinds.Back (length word) else ahead in
    by_test (IsFaultOf b) (nat_lt 0 digits && list_all is_digit (take digits word)) back pieces.BadNumber
    (λ _. by_test (IsFaultOf b) (last == 98) (pieces.Lexeme kinds.Back (length word)) ahead (λ _. tt)
    (λ _. by_test (IsFaultOf b) (last == 102) (pieces.Lexeme kinds.Ahead (length word)) pieces.BadNumber (λ _. tt) (λ _. (no_quote, digit))))
    (λ _. (no_quote, digit))

number_fault : (b : ℕ) (word : List ℕ) (o : Option ℕ) → (b == 34) ≡ false → is_digit b ≡ true → IsFaultOf b (number_piece word o)
number_fault b word (Some n) no_quote digit = tt
number_fault b word None no_quote digit = reference_fault b word no_quote digit

word_fault : (b : ℕ) (word : List ℕ) → slice_index word 0 ≡ b → (b == 34) ≡ false → IsFaultOf b (word_piece word)
unfolding word_piece
word_fault b word first no_quote =
    by_test (IsFaultOf b) (is_digit (slice_index word 0)) (number_piece word (digits_number word)) (pieces.Lexeme kinds.Name (length word))
    (λ digit. number_fault b word (digits_number word) no_quote (sym (ap is_digit first) ∙ digit)) (λ _. tt)

first_of_run : (b : ℕ) (bs : List ℕ) → is_name_byte b ≡ true → slice_index (take (run_of_names (b ∷ bs)) (b ∷ bs)) 0 ≡ b
unfolding run_of_names
first_of_run b bs name =
    let some : prefix_len is_name_byte (b ∷ bs) ≡ 1 + prefix_len is_name_byte bs = rw name refl in
    get_or-take (prefix_len is_name_byte (b ∷ bs)) (b ∷ bs) 0 0 (omega (arith, some))

fault_found : (b : ℕ) (bs : List ℕ) → IsFaultOf b (front (b ∷ bs))
unfolding front
fault_found b bs =
    let P : Piece → Type 0 = IsFaultOf b in
    let printable : Piece = if is_printable b then pieces.Lexeme (sign_of b) 1 else pieces.BadChar in
    let name : Piece = if is_name_byte b then word_piece (take (run_of_names (b ∷ bs)) (b ∷ bs)) else printable in
    let quote : Piece = if b == 34 then text_piece (closing false bs) else name in
    let hash : Piece = if b == 35 then pieces.Gap (1 + comment_len bs) else quote in
    let cr : Piece = if b == 13 then return_piece bs else hash in
    let lf : Piece = if b == 10 then pieces.Lexeme kinds.LineEnd 1 else cr in
    by_test P (is_space_or_tab b) (pieces.Gap 1) lf (λ _. tt) (λ _.
    by_test P (b == 10) (pieces.Lexeme kinds.LineEnd 1) cr (λ _. tt) (λ _.
    by_test P (b == 13) (return_piece bs) hash (λ is. return_fault b bs (eqb-true b 13 is)) (λ _.
    by_test P (b == 35) (pieces.Gap (1 + comment_len bs)) quote (λ _. tt) (λ _.
    by_test P (b == 34) (text_piece (closing false bs)) name (λ is. string_fault b (closing false bs) is) (λ no_quote.
    by_test P (is_name_byte b) (word_piece (take (run_of_names (b ∷ bs)) (b ∷ bs))) printable (λ is. word_fault b (take (run_of_names (b ∷ bs)) (b ∷ bs)) (first_of_run b bs is) no_quote) (λ no_name.
    by_test P (is_printable b) (pieces.Lexeme (sign_of b) 1) pieces.BadChar (λ _. tt) (λ _. (no_quote, no_digit b no_name))))))))

-- ---- a place at which no token stands
abbrev IsBad : Piece → Type 0
IsBad (pieces.Gap n) = ⊥
IsBad (pieces.Lexeme kind n) = ⊥
IsBad pieces.BadChar = Unit {0}
IsBad pieces.BadNumber = Unit {0}
IsBad pieces.OpenText = Unit {0}

none_stands : (b : ℕ) (bs : List ℕ) (p : Piece) → front (b ∷ bs) ≡ p → IsBad p → HasNoToken (b ∷ bs)
none_stands b bs p is bad = record {
  some = omega arith;
  no_blank = no_blank (is_space_or_tab b) refl;
  no_comment = λ e. subst IsBad (sym is ∙ ap (λ c. front (c ∷ bs)) e ∙ hash_piece bs) bad;
  no_token = λ kind word rest cut lexeme. subst IsBad (sym is ∙ ap front cut ∙ (lexeme_front kind word rest lexeme).0) bad;
}
  where
    no_blank : (t : Bool) → is_space_or_tab b ≡ t → is_space_or_tab b ≡ false
    no_blank true e = absurd (subst IsBad (sym is ∙ blank_front b bs e) bad)
    no_blank false e = e

one_fault : (f g : TextFault) → ◌≡◌ {A = Option TextFault} (Some f) (Some g) → f ≡ g
one_fault f g e = cc

no_fault : (f : TextFault) → ◌≡◌ {A = Option TextFault} None (Some f) → ⊥
no_fault f e = absurd (cc)

module _ (at b : ℕ) (bs : List ℕ) (f : TextFault)
    (more : (n : ℕ) → 0 < n → n ≤ length (b ∷ bs) → (reading (n - 1) (at + 1) bs).fault ≡ Some f → StopsWith (at + n) (drop n (b ∷ bs)) f) where
  stops_here : (p : Piece) → front (b ∷ bs) ≡ p → IsBad p → token_fault at b ≡ f → StopsWith at (b ∷ bs) f
  stops_here p is bad same = subst (StopsWith at (b ∷ bs)) same (Here at (b ∷ bs) (none_stands b bs p is bad))

  piece_stops : (p : Piece) → front (b ∷ bs) ≡ p → IsPiece (b ∷ bs) p → IsFaultOf b p
      → (with_piece at p (λ n. reading (n - 1) (at + 1) bs)).fault ≡ Some f → StopsWith at (b ∷ bs) f
  piece_stops (pieces.Gap n) is h found e = gap h.2
    where
      gap : IsGap (b ∷ bs) n → StopsWith at (b ∷ bs) f
      gap (inl g) = let r = more n h.0 h.1 e in BehindBlank at b bs f g.1 (rw g.0 at r)
      gap (inr g) =
          BehindComment at (take n (b ∷ bs)) (drop n (b ∷ bs)) (b ∷ bs) f g (sym (take-append-drop n (b ∷ bs)))
          (rw (length-take-le n (b ∷ bs) h.1) (more n h.0 h.1 e))
  piece_stops (pieces.Lexeme kind n) is h found e =
      let len = length-take-le n (b ∷ bs) h.1 in
      BehindToken at kind (take n (b ∷ bs)) (drop n (b ∷ bs)) (b ∷ bs) f h.2 (sym (take-append-drop n (b ∷ bs))) (rw len (more n h.0 h.1 e))
  piece_stops pieces.BadChar is h found e =
      let same : token_fault at b ≡ faults.BadChar at = rw (found.0, found.1) refl in
      stops_here pieces.BadChar is tt (same ∙ one_fault (faults.BadChar at) f e)
  piece_stops pieces.BadNumber is h found e =
      let same : token_fault at b ≡ faults.BadNumber at = rw (found.0, found.1) refl in
      stops_here pieces.BadNumber is tt (same ∙ one_fault (faults.BadNumber at) f e)
  piece_stops pieces.OpenText is h found e =
      let same : token_fault at b ≡ faults.OpenText at = rw found refl in
      stops_here pieces.OpenText is tt (same ∙ one_fault (faults.OpenText at) f e)

stops_on : (inside at : ℕ) (bytes : List ℕ) (f : TextFault) → inside ≤ length bytes → (reading inside at bytes).fault ≡ Some f
    → StopsWith (at + inside) (drop inside bytes) f
unfolding reading
stops_on zero at [] f le e = absurd (no_fault f e)
stops_on (suc n) at [] f le e = absurd (omega arith)
stops_on (suc n) at (b ∷ bs) f le e = let same : at + suc n ≡ (at + 1) + n = omega arith in rw same (stops_on n (at + 1) bs f (omega arith) e)
stops_on zero at (b ∷ bs) f le e =
    rw add-zero (piece_stops at b bs f
    (λ n pos fits e. let same : (at + 1) + (n - 1) ≡ at + n = omega arith in let k : suc (n - 1) ≡ n = omega arith in
    let r : StopsWith (at + n) (drop (n - 1) bs) f = rw same at (stops_on (n - 1) (at + 1) bs f (omega arith) e) in
    subst (λ m. StopsWith (at + n) (drop m (b ∷ bs)) f) k r)
    (front (b ∷ bs)) refl (front_found b bs) (fault_found b bs) e)

-- ---- and the other way round
goes_behind : (at : ℕ) (word rest : List ℕ) → 0 < length word → reading (length word - 1) (at + 1) (drop 1 (word ++ rest)) ≡ reading 0 (at + length word) rest
goes_behind at word rest pos =
    behind_piece at (length word) (word ++ rest) pos (omega (arith, length-append word rest))
    ∙ ap (reading 0 (at + length word)) (drop_at word rest (length word) refl)

abbrev fault_of : Reading → Option TextFault
fault_of r = r.fault

here_read : (at b : ℕ) (bs : List ℕ) → HasNoToken (b ∷ bs) → (p : Piece) → IsPiece (b ∷ bs) p → IsFaultOf b p
    → (with_piece at p (λ n. reading (n - 1) (at + 1) bs)).fault ≡ Some (token_fault at b)
here_read at b bs none (pieces.Gap n) h found = gap h.2
  where
    gap : IsGap (b ∷ bs) n → (reading (n - 1) (at + 1) bs).fault ≡ Some (token_fault at b)
    gap (inl g) = absurd (true≢false (sym g.1 ∙ none.no_blank))
    gap (inr g) =
        let some = h.0 in
        absurd (none.no_comment (sym (get_or-take n (b ∷ bs) 0 0 (omega (arith, some))) ∙ g.1))
here_read at b bs none (pieces.Lexeme kind n) h found =
    absurd (none.no_token kind (take n (b ∷ bs)) (drop n (b ∷ bs)) (sym (take-append-drop n (b ∷ bs))) h.2)
here_read at b bs none pieces.BadChar h found = rw (found.0, found.1) refl
here_read at b bs none pieces.BadNumber h found = rw (found.0, found.1) refl
here_read at b bs none pieces.OpenText h found = rw found refl

behind_read : (at : ℕ) (word rest bytes : List ℕ) (p : Piece) → bytes ≡ word ++ rest → 0 < length word → front (word ++ rest) ≡ p
    → fault_of (with_piece at p (λ n. reading (n - 1) (at + 1) (drop 1 (word ++ rest)))) ≡ fault_of (reading (length word - 1) (at + 1) (drop 1 (word ++ rest)))
    → fault_of (reading 0 at bytes) ≡ fault_of (reading 0 (at + length word) rest)
behind_read at word rest bytes p cut pos is same =
    ap fault_of (ap (reading 0 at) cut ∙ stepped at (word ++ rest) (omega (arith, pos, length-append word rest))
    ∙ ap (λ p. with_piece at p (λ n. reading (n - 1) (at + 1) (drop 1 (word ++ rest)))) is)
    ∙ same ∙ ap fault_of (goes_behind at word rest pos)

stops_read : (at : ℕ) (bytes : List ℕ) (f : TextFault) → StopsWith at bytes f → fault_of (reading 0 at bytes) ≡ Some f
unfolding reading
stops_read _ _ _ (Here at [] none) = let some = none.some in absurd (omega (arith, some))
stops_read _ _ _ (Here at (b ∷ bs) none) = here_read at b bs none (front (b ∷ bs)) (front_found b bs) (fault_found b bs)
stops_read _ _ _ (BehindBlank at b rest f blank more) = rw (blank_front b rest blank) (stops_read (at + 1) rest f more)
stops_read _ _ _ (BehindComment at comment rest bytes f is_comment cut more) =
    behind_read at comment rest bytes (pieces.Gap (length comment)) cut is_comment.0 (comment_front comment rest is_comment) refl
    ∙ stops_read (at + length comment) rest f more
stops_read _ _ _ (BehindToken at kind word rest bytes f lexeme cut more) =
    let t = lexeme_front kind word rest lexeme in
    behind_read at word rest bytes (pieces.Lexeme kind (length word)) cut t.1 t.0 refl
    ∙ stops_read (at + length word) rest f more

-- ---- the answer
answered : (ts : List Token) (o : Option TextFault) (f : TextFault) → tokens_or_fault ts o ≡ Err f → o ≡ Some f
answered ts None f e = absurd (cc)
answered ts (Some g) f e = let same : g ≡ f = cc in ap Some same

pub stops_iff : (text : List ℕ) (f : TextFault) → (result_of_reading (reading 0 0 text) ≡ Err f) ↔ StopsWith 0 text f
stops_iff text f = (
  λ e. (let h = stops_on 0 0 text f (omega arith) (answered (reading 0 0 text).tokens (reading 0 0 text).fault f e) in h),
  λ h. ap (tokens_or_fault (reading 0 0 text).tokens) (stops_read 0 text f h),
)
