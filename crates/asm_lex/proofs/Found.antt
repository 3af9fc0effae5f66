-- A text's reading is in the grammar.
use Rattle.std.proofs.Common.{◌≡◌, ℕ, zero, suc, ◌+◌, ◌-◌, ◌<◌, ◌≤◌, Bool, true, false, cond, List, [], ◌∷◌, length, take, drop, Option, Some, None, refl, sym, ap, subst, ◌∙◌, arith, one-add, add-zero, inl, inr, length-take, length-take-le, take-append-drop, get_or-take}
use Rattle.std.specs.Prelude.{Result, Ok, Err, IfOk}
use Rattle.asm_lex.specs.declared.fault.TextFault.{TextFault}
use Rattle.std.proofs.lemmas.List.Folds.{length-prefix_len}
use Rattle.std.proofs.lemmas.List.Sums.{prefix_len-le-length, prefix_len_passes}
use Rattle.std.proofs.Common.{◌⊎◌}
use Rattle.std.specs.Prelude.{if◌then◌else◌, ◌==◌, ◌&&◌, not, nat_lt, slice_index}
use Rattle.std.specs.Option.{option_map}
use Rattle.std.specs.List.{prefix_len, list_all}
use Rattle.std.proofs.lemmas.Bool.{eqb-true, eqb-false}
use Rattle.asm_lex.specs.declared.token.Token.{Token}
use Rattle.asm_lex.specs.declared.token.Kind.{Kind}
use Rattle.asm_lex.specs.declared.token.Kind.TheVariants as kinds
use Rattle.asm_lex.specs.declared.piece.Piece.{Piece}
use Rattle.asm_lex.specs.declared.piece.Piece.TheVariants as pieces
use Rattle.asm_lex.specs.Bytes.{is_digit, is_name_byte, is_space_or_tab, is_printable}
use Rattle.asm_lex.specs.Numbers.{digits_number}
use Rattle.asm_lex.specs.Pieces.{front, sign_of, run_of_names, comment_len, closing, reference_of, number_piece, word_piece, text_piece, return_piece}
use Rattle.asm_lex.specs.Reading.{Reading, whole, stopped, result_of_reading, tokens_or_fault, with_token, with_piece, reading}
use Rattle.asm_lex.specs.Grammar.{IsSign, IsComment, IsLongestRun, StopsBefore, is_in_line, IsLexeme, Reads, Ended, Blank, Comment, Lexed}

-- the properties of a piece at the front
abbrev pub IsGap : List ℕ → ℕ → Type 0
IsGap text n = ((n ≡ 1) × (is_space_or_tab (slice_index text 0) ≡ true)) ⊎ IsComment (take n text) (drop n text)

abbrev pub IsPiece : List ℕ → Piece → Type 0
IsPiece text (pieces.Gap n) = (0 < n) × (n ≤ length text) × IsGap text n
IsPiece text (pieces.Lexeme kind n) = (0 < n) × (n ≤ length text) × IsLexeme kind (take n text) (drop n text)
IsPiece text pieces.BadChar = Unit {0}
IsPiece text pieces.BadNumber = Unit {0}
IsPiece text pieces.OpenText = Unit {0}

by_test : (P : Piece → Type 0) (t : Bool) (x y : Piece) → (t ≡ true → P x) → (t ≡ false → P y) → P (if t then x else y)
by_test P true x y f g = f refl
by_test P false x y f g = g refl

by_kind : (P : Kind → Type 0) (t : Bool) (x y : Kind) → P x → P y → P (if t then x else y)
by_kind P true x y p q = p
by_kind P false x y p q = q

-- the longest run
stops_at : (p : ℕ → Bool) (text : List ℕ) → StopsBefore p (drop (prefix_len p text) text)
stops_at p [] = tt
stops_at p (x ∷ xs) = here (p x) refl (stops_at p xs)
  where
    here : (t : Bool) → p x ≡ t → StopsBefore p (drop (prefix_len p xs) xs) → StopsBefore p (drop (cond t (1 + prefix_len p xs) 0) (x ∷ xs))
    here true e more = rw one-add more
    here false e more = e

longest : (p : ℕ → Bool) (text : List ℕ) → IsLongestRun p (take (prefix_len p text) text) (drop (prefix_len p text) text)
longest p text = record {
  each = λ i lt. let below : i < prefix_len p text = omega (arith, length-prefix_len p text) in rw (get_or-take (prefix_len p text) text i 0 below) (prefix_len_passes p text i 0 below);
  stops = stops_at p text;
}

closing_step : (t u : Bool) (o : Option ℕ) (n len : ℕ) → ((m : ℕ) → o ≡ Some m → m < len) → (if t then None else (if u then Some 0 else option_map suc o)) ≡ Some n → n < suc len
closing_step true u o n len f h = absurd cc
closing_step false true o n len f h = let z : 0 ≡ n = cc in omega arith
closing_step false false None n len f h = absurd cc
closing_step false false (Some m) n len f h = let z : suc m ≡ n = cc in let lt = f m refl in omega arith

closing_within : (e : Bool) (bs : List ℕ) (n : ℕ) → closing e bs ≡ Some n → n < length bs
unfolding closing
closing_within e [] n h = absurd cc
closing_within e (b ∷ bs) n h = closing_step (b == 10) (b == 34 && not e) (closing (b == 92 && not e) bs) n (length bs) (closing_within (b == 92 && not e) bs) h

module _ (b : ℕ) (bs : List ℕ) where
  reference_found : (n : ℕ) → (0 < n) × (n ≤ length (b ∷ bs)) → (word : List ℕ) → word ≡ take n (b ∷ bs) → length word ≡ n → is_digit (slice_index word 0) ≡ true → IsLongestRun is_name_byte word (drop n (b ∷ bs)) → digits_number word ≡ None
      → (p : Piece) → reference_of word ≡ p → IsPiece (b ∷ bs) p
  unfolding reference_of
  reference_found n fits word is length_is digit run none p e =
      let Q : Piece → Type 0 = λ q. q ≡ p → IsPiece (b ∷ bs) p in
      let digits = length word - 1 in
      let last = slice_index word digits in
      let back = λ (f : pieces.Lexeme kinds.Back (length word) ≡ p). subst (IsPiece (b ∷ bs)) f (rw (length_is, ← is) (fits.0, fits.1, (rw length_is fits.0, digit, run, none, e ∙ sym f))) in
      let ahead = λ (f : pieces.Lexeme kinds.Ahead (length word) ≡ p). subst (IsPiece (b ∷ bs)) f (rw (length_is, ← is) (fits.0, fits.1, (rw length_is fits.0, digit, run, none, e ∙ sym f))) in
      let bad = λ (f : pieces.BadNumber ≡ p). subst (IsPiece (b ∷ bs)) f tt in
      by_test Q (nat_lt 0 digits && list_all is_digit (take digits word)) (if last == 98 then pieces.Lexeme kinds.Back (length word) else (if last == 102 then pieces.Lexeme kinds.Ahead (length word) else pieces.BadNumber)) pieces.BadNumber
      (λ _. by_test Q (last == 98) (pieces.Lexeme kinds.Back (length word)) (if last == 102 then pieces.Lexeme kinds.Ahead (length word) else pieces.BadNumber)
      (λ _. back)
      (λ _. by_test Q (last == 102) (pieces.Lexeme kinds.Ahead (length word)) pieces.BadNumber (λ _. ahead) (λ _. bad)))
      (λ _. bad)
      e

  number_found : (n : ℕ) → (0 < n) × (n ≤ length (b ∷ bs)) → (word : List ℕ) → word ≡ take n (b ∷ bs) → length word ≡ n → is_digit (slice_index word 0) ≡ true → IsLongestRun is_name_byte word (drop n (b ∷ bs))
      → (o : Option ℕ) → digits_number word ≡ o → IsPiece (b ∷ bs) (number_piece word o)
  number_found n fits word is length_is digit run None e = reference_found n fits word is length_is digit run e (reference_of word) refl
  number_found n fits word is length_is digit run (Some k) e = rw (length_is, ← is) (fits.0, fits.1, (rw length_is fits.0, digit, run, e))

  word_found : (n : ℕ) → (0 < n) × (n ≤ length (b ∷ bs)) → (word : List ℕ) → word ≡ take n (b ∷ bs) → length word ≡ n → IsLongestRun is_name_byte word (drop n (b ∷ bs)) → IsPiece (b ∷ bs) (word_piece word)
  unfolding word_piece
  word_found n fits word is length_is run =
      by_test (IsPiece (b ∷ bs)) (is_digit (slice_index word 0)) (number_piece word (digits_number word)) (pieces.Lexeme kinds.Name (length word))
      (λ digit. number_found n fits word is length_is digit run (digits_number word) refl)
      (λ other. rw (length_is, ← is) (fits.0, fits.1, (rw length_is fits.0, other, run)))

  text_found : (o : Option ℕ) → b ≡ 34 → closing false bs ≡ o → IsPiece (b ∷ bs) (text_piece o)
  text_found None quote e = tt
  text_found (Some n) quote e =
      let lt = closing_within false bs n e in
      (omega arith, omega arith, (n, omega (arith, length-take (n + 2) (b ∷ bs)), rw (get_or-take (n + 2) (b ∷ bs) 0 0 (omega arith)) quote, rw (take-append-drop (n + 2) (b ∷ bs)) e))

  comment_found : b ≡ 35 → IsPiece (b ∷ bs) (pieces.Gap (1 + comment_len bs))
  unfolding comment_len
  comment_found hash =
      let run = longest is_in_line (b ∷ bs) in
      let same : prefix_len is_in_line (b ∷ bs) ≡ 1 + prefix_len is_in_line bs = rw hash refl in
      let within = prefix_len-le-length is_in_line (b ∷ bs) in
      rw (← same) (omega (arith, same), within, inr (omega (arith, same, length-prefix_len is_in_line (b ∷ bs)), rw (get_or-take (prefix_len is_in_line (b ∷ bs)) (b ∷ bs) 0 0 (omega (arith, same))) hash, run))

return_found : (b : ℕ) (bs : List ℕ) → b ≡ 13 → IsPiece (b ∷ bs) (return_piece bs)
return_found b [] cr = tt
return_found b (c ∷ bs) cr =
    by_test (IsPiece (b ∷ c ∷ bs)) (c == 10) (pieces.Lexeme kinds.LineEnd 2) pieces.BadChar
    (λ lf. (omega arith, omega arith, inr (rw (cr, eqb-true c 10 lf) refl))) (λ other. tt)

name_found : (b : ℕ) (bs : List ℕ) → is_name_byte b ≡ true → IsPiece (b ∷ bs) (word_piece (take (run_of_names (b ∷ bs)) (b ∷ bs)))
unfolding run_of_names
name_found b bs name =
    let text = b ∷ bs in
    let same : prefix_len is_name_byte (b ∷ bs) ≡ 1 + prefix_len is_name_byte bs = rw name refl in
    word_found b bs (prefix_len is_name_byte (b ∷ bs)) (omega (arith, same), prefix_len-le-length is_name_byte (b ∷ bs)) (take (prefix_len is_name_byte (b ∷ bs)) (b ∷ bs)) refl (length-prefix_len is_name_byte (b ∷ bs)) (longest is_name_byte (b ∷ bs))

-- a sign's kind has the rule of signs
sign_lexeme : (b : ℕ) (word rest : List ℕ) → IsSign (sign_of b) word → IsLexeme (sign_of b) word rest
sign_lexeme b word rest =
    let P : Kind → Type 0 = λ k. IsSign k word → IsLexeme k word rest in
    let other = kinds.Other b in
    let semicolon = if b == 59 then kinds.Semicolon else other in
    let colon = if b == 58 then kinds.Colon else semicolon in
    let percent = if b == 37 then kinds.Percent else colon in
    let minus = if b == 45 then kinds.Minus else percent in
    let plus = if b == 43 then kinds.Plus else minus in
    let close = if b == 41 then kinds.Close else plus in
    let opening = if b == 40 then kinds.Open else close in
    by_kind P (b == 44) kinds.Comma opening (λ s. s)
    (by_kind P (b == 40) kinds.Open close (λ s. s)
    (by_kind P (b == 41) kinds.Close plus (λ s. s)
    (by_kind P (b == 43) kinds.Plus minus (λ s. s)
    (by_kind P (b == 45) kinds.Minus percent (λ s. s)
    (by_kind P (b == 37) kinds.Percent colon (λ s. s)
    (by_kind P (b == 58) kinds.Colon semicolon (λ s. s)
    (by_kind P (b == 59) kinds.Semicolon other (λ s. s) (λ s. s))))))))

pub front_found : (b : ℕ) (bs : List ℕ) → IsPiece (b ∷ bs) (front (b ∷ bs))
unfolding front
front_found b bs =
    let P : Piece → Type 0 = IsPiece (b ∷ bs) in
    let printable = if is_printable b then pieces.Lexeme (sign_of b) 1 else pieces.BadChar in
    let name = if is_name_byte b then word_piece (take (run_of_names (b ∷ bs)) (b ∷ bs)) else printable in
    let quote = if b == 34 then text_piece (closing false bs) else name in
    let hash = if b == 35 then pieces.Gap (1 + comment_len bs) else quote in
    let cr = if b == 13 then return_piece bs else hash in
    let lf = if b == 10 then pieces.Lexeme kinds.LineEnd 1 else cr in
    by_test P (is_space_or_tab b) (pieces.Gap 1) lf (λ blank. (omega arith, omega arith, inl (refl, blank))) (λ _.
    by_test P (b == 10) (pieces.Lexeme kinds.LineEnd 1) cr (λ is. (omega arith, omega arith, inl (rw (eqb-true b 10 is) refl))) (λ _.
    by_test P (b == 13) (return_piece bs) hash (λ is. return_found b bs (eqb-true b 13 is)) (λ _.
    by_test P (b == 35) (pieces.Gap (1 + comment_len bs)) quote (λ is. comment_found b bs (eqb-true b 35 is)) (λ no_hash.
    by_test P (b == 34) (text_piece (closing false bs)) name (λ is. text_found b bs (closing false bs) (eqb-true b 34 is) refl) (λ no_quote.
    by_test P (is_name_byte b) (word_piece (take (run_of_names (b ∷ bs)) (b ∷ bs))) printable (λ is. name_found b bs is) (λ no_name.
    by_test P (is_printable b) (pieces.Lexeme (sign_of b) 1) pieces.BadChar (λ is. (omega arith, omega arith, sign_lexeme b (b ∷ []) bs (record { byte = b; alone = refl; printable = is; no_name = no_name; no_quote = eqb-false b 34 no_quote; no_comment = eqb-false b 35 no_hash; kind = refl }))) (λ _. tt)))))))

behind_whole : (t : Token) (r : Reading) (ts : List Token) → with_token t r ≡ whole ts → (us : List Token) × (r ≡ whole us) × (t ∷ us ≡ ts)
behind_whole t r ts e = (r.tokens, ap (λ (f : Option TextFault). record { tokens = r.tokens; fault = f }) (ap (λ (q : Reading). q.fault) e), ap (λ (q : Reading). q.tokens) e)

not_whole : (f : TextFault) (ts : List Token) → stopped f ≡ whole ts → ⊥
not_whole f ts e = let h : Some f ≡ None = ap (λ (q : Reading). q.fault) e in absurd cc

module _ (at b : ℕ) (bs : List ℕ) (ts : List Token)
    (more : (n : ℕ) → 0 < n → n ≤ length (b ∷ bs) → (us : List Token) → reading (n - 1) (at + 1) bs ≡ whole us → Reads (at + n) (drop n (b ∷ bs)) us) where
  piece_reads : (p : Piece) → IsPiece (b ∷ bs) p → with_piece at p (λ n. reading (n - 1) (at + 1) bs) ≡ whole ts → Reads at (b ∷ bs) ts
  piece_reads (pieces.Gap n) h e = gap h.2
    where
      gap : IsGap (b ∷ bs) n → Reads at (b ∷ bs) ts
      gap (inl g) = let r = more n h.0 h.1 ts e in Blank at b bs ts g.1 (rw g.0 at r)
      gap (inr g) = Comment at (take n (b ∷ bs)) (drop n (b ∷ bs)) (b ∷ bs) ts g (sym (take-append-drop n (b ∷ bs))) (rw (length-take-le n (b ∷ bs) h.1) (more n h.0 h.1 ts e))
  piece_reads (pieces.Lexeme kind n) h e =
      let len = length-take-le n (b ∷ bs) h.1 in
      let t : Token = record { kind = kind; start = at; end = at + n } in
      let k = behind_whole t (reading (n - 1) (at + 1) bs) ts e in
      let one = Lexed at kind (take n (b ∷ bs)) (drop n (b ∷ bs)) (b ∷ bs) k.0 h.2 (sym (take-append-drop n (b ∷ bs))) (rw len (more n h.0 h.1 k.0 k.1)) in
      let two : Reads at (b ∷ bs) (t ∷ k.0) = rw len at one in
      subst (Reads at (b ∷ bs)) k.2 two
  piece_reads pieces.BadChar h e = absurd (not_whole _ ts e)
  piece_reads pieces.BadNumber h e = absurd (not_whole _ ts e)
  piece_reads pieces.OpenText h e = absurd (not_whole _ ts e)

reads_on : (inside at : ℕ) (bytes : List ℕ) (ts : List Token) → inside ≤ length bytes → reading inside at bytes ≡ whole ts → Reads (at + inside) (drop inside bytes) ts
unfolding reading
reads_on zero at [] ts le e = subst (Reads (at + 0) []) (ap (λ (q : Reading). q.tokens) e) (Ended (at + 0))
reads_on (suc n) at [] ts le e = absurd (omega arith)
reads_on (suc n) at (b ∷ bs) ts le e = let same : at + suc n ≡ (at + 1) + n = omega arith in rw same (reads_on n (at + 1) bs ts (omega arith) e)
reads_on zero at (b ∷ bs) ts le e =
    rw add-zero (piece_reads at b bs ts
    (λ n pos fits us f. let same : (at + 1) + (n - 1) ≡ at + n = omega arith in let k : suc (n - 1) ≡ n = omega arith in
    let r : Reads (at + n) (drop (n - 1) bs) us = rw same at (reads_on (n - 1) (at + 1) bs us (omega arith) f) in
    subst (λ m. Reads (at + n) (drop m (b ∷ bs)) us) k r)
    (front (b ∷ bs)) (front_found b bs) e)

pub reads : (bytes : List ℕ) (ts : List Token) → reading 0 0 bytes ≡ whole ts → Reads 0 bytes ts
reads bytes ts e = let r = reads_on 0 0 bytes ts (omega arith) e in r

answered_whole : (ts us : List Token) (f : Option TextFault) → tokens_or_fault us f ≡ Ok ts → record { tokens = us; fault = f } ≡ whole ts
answered_whole ts us None e = let same : us ≡ ts = cc in ap whole same
answered_whole ts us (Some f) e = absurd cc

pub given : (bytes : List ℕ) (ts : List Token) → result_of_reading (reading 0 0 bytes) ≡ Ok ts → Reads 0 bytes ts
given bytes ts e = let r = reading 0 0 bytes in reads bytes ts (answered_whole ts r.tokens r.fault e)

-- a result that equals the reading is what the grammar reads
pub given_by : {V : Type 0} (items : V → List Token) (r : Result V TextFault) (text : List ℕ) → IfOk r (λ v. result_of_reading (reading 0 0 text) ≡ Ok (items v)) → IfOk r (λ v. Reads 0 text (items v))
given_by items (Ok v) text h = given text (items v) h
given_by items (Err f) text h = tt
