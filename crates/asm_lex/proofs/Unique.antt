-- A text that the grammar reads is read the same way.
use Rattle.std.proofs.Common.{◌≡◌, ℕ, suc, ◌+◌, ◌-◌, ◌<◌, Bool, true, false, List, [], ◌∷◌, ◌++◌, length, take, drop, Result, Ok, Err, refl, sym, ap, ◌∙◌, arith, length-append, one-add, true≢false, eqb, inl, inr}
use Rattle.std.specs.Prelude.{◌≢◌, IfErr}
use Rattle.std.specs.List.{prefix_len}
use Rattle.asm_lex.specs.declared.fault.TextFault.{TextFault}
use Rattle.asm_lex.specs.declared.fault.TextFault.TheVariants as faults
use Rattle.std.proofs.lemmas.Bool.{ne_eqb}
use Rattle.std.proofs.lemmas.List.{take_at, drop_at}
use Rattle.asm_lex.specs.declared.token.Token.{Token}
use Rattle.asm_lex.specs.declared.token.Kind.{Kind}
use Rattle.asm_lex.specs.declared.token.Kind.TheVariants as kinds
use Rattle.asm_lex.specs.declared.piece.Piece.TheVariants as pieces
use Rattle.asm_lex.specs.Bytes.{is_name_byte, is_space_or_tab, is_printable}
use Rattle.asm_lex.specs.Pieces.{front, sign_of, run_of_names, comment_len, word_piece}
use Rattle.asm_lex.specs.Reading.{Reading, result_of_reading, whole, reading}
use Rattle.asm_lex.specs.Grammar.{IsSign, IsComment, IsLongestRun, is_in_line, IsLexeme, Reads, Ended, Blank, Comment, Lexed}
use Rattle.asm_lex.proofs.Steps.{stepped, behind_piece}

-- the length of a run
run_len : (p : ℕ → Bool) (run rest : List ℕ) → IsLongestRun p run rest → prefix_len p (run ++ rest) ≡ length run
run_len p [] [] h = refl
run_len p [] (b ∷ bs) h = rw h.stops refl
run_len p (x ∷ run) rest h =
    let first : p x ≡ true = h.each 0 (omega arith) in
    let others : IsLongestRun p run rest = record { each = λ i lt. h.each (suc i) (omega arith); stops = h.stops } in
    rw (first, run_len p run rest others, one-add) refl

tail_run : (p : ℕ → Bool) (x : ℕ) (run rest : List ℕ) → IsLongestRun p (x ∷ run) rest → IsLongestRun p run rest
tail_run p x run rest h = record { each = λ i lt. h.each (suc i) (omega arith); stops = h.stops }

-- a byte that passes a test is none that does not
differs : (p : ℕ → Bool) (b k : ℕ) → p b ≡ true → p k ≡ false → eqb b k ≡ false
differs p b k passes other = ne_eqb b k (λ e. true≢false (sym passes ∙ (ap p e ∙ other)))

-- the piece at the front of a text that begins with a name byte
pub word_front : (word rest : List ℕ) → 0 < length word → IsLongestRun is_name_byte word rest → front (word ++ rest) ≡ word_piece word
unfolding front run_of_names
word_front [] rest pos run = absurd (omega arith)
word_front (b ∷ w) rest pos run =
    let yes : is_name_byte b ≡ true = run.each 0 (omega arith) in
    let len : 1 + prefix_len is_name_byte (w ++ rest) ≡ length (b ∷ w) = rw (run_len is_name_byte w rest (tail_run is_name_byte b w rest run), one-add) refl in
    rw (differs is_name_byte b 32 yes refl, differs is_name_byte b 9 yes refl, differs is_name_byte b 10 yes refl, differs is_name_byte b 13 yes refl, differs is_name_byte b 35 yes refl, differs is_name_byte b 34 yes refl)
    (rw yes (ap word_piece (ap (λ n. take n (b ∷ (w ++ rest))) len ∙ take_at (b ∷ w) rest (length (b ∷ w)) refl)))

pub sign_front : (b : ℕ) (rest : List ℕ) → is_printable b ≡ true → is_name_byte b ≡ false → (b ≡ 34 → ⊥) → (b ≡ 35 → ⊥) → front (b ∷ rest) ≡ pieces.Lexeme (sign_of b) 1
unfolding front
sign_front b rest printable name quote hash =
    rw (differs is_printable b 32 printable refl, differs is_printable b 9 printable refl, differs is_printable b 10 printable refl, differs is_printable b 13 printable refl, ne_eqb b 35 hash, ne_eqb b 34 quote, name, printable) refl

line_front : (word rest : List ℕ) → IsLexeme kinds.LineEnd word rest → (front (word ++ rest) ≡ pieces.Lexeme kinds.LineEnd (length word)) × (0 < length word)
unfolding front
line_front word rest (inl e) = rw e (refl, omega arith)
line_front word rest (inr e) = rw e (refl, omega arith)

text_front : (word rest : List ℕ) → IsLexeme kinds.Text word rest → (front (word ++ rest) ≡ pieces.Lexeme kinds.Text (length word)) × (0 < length word)
unfolding front
text_front [] rest h = absurd (omega (arith, h.1))
text_front (b ∷ word) rest h = (rw (h.2, h.3, ← h.1) refl, omega arith)

lexeme_sign : (sign : Kind) (word rest : List ℕ) → IsSign sign word → (front (word ++ rest) ≡ pieces.Lexeme sign (length word)) × (0 < length word)
lexeme_sign sign word rest h = rw h.alone (sign_front h.byte rest h.printable h.no_name h.no_quote h.no_comment ∙ ap (λ k. pieces.Lexeme k 1) h.kind, omega arith)

pub lexeme_front : (kind : Kind) (word rest : List ℕ) → IsLexeme kind word rest → (front (word ++ rest) ≡ pieces.Lexeme kind (length word)) × (0 < length word)
unfolding word_piece
lexeme_front kinds.Name word rest h = (word_front word rest h.0 h.2 ∙ rw h.1 refl, h.0)
lexeme_front (kinds.Number n) word rest h = (word_front word rest h.0 h.2 ∙ rw (h.1, h.3) refl, h.0)
lexeme_front kinds.LineEnd word rest h = line_front word rest h
lexeme_front kinds.Back word rest h = (word_front word rest h.0 h.2 ∙ rw (h.1, h.3) h.4, h.0)
lexeme_front kinds.Ahead word rest h = (word_front word rest h.0 h.2 ∙ rw (h.1, h.3) h.4, h.0)
lexeme_front kinds.Text word rest h = text_front word rest h
lexeme_front sign word rest h = lexeme_sign sign word rest h

pub comment_front : (comment rest : List ℕ) → IsComment comment rest → front (comment ++ rest) ≡ pieces.Gap (length comment)
unfolding front comment_len
comment_front [] rest h = absurd (omega arith)
comment_front (b ∷ comment) rest h = rw (h.1, run_len is_in_line comment rest (tail_run is_in_line b comment rest h.2), one-add) refl

pub blank_front : (b : ℕ) (rest : List ℕ) → is_space_or_tab b ≡ true → front (b ∷ rest) ≡ pieces.Gap 1
unfolding front
blank_front b rest h = rw h refl

-- after a piece of that length
goes_behind : (at : ℕ) (word rest : List ℕ) → 0 < length word → reading (length word - 1) (at + 1) (drop 1 (word ++ rest)) ≡ reading 0 (at + length word) rest
goes_behind at word rest pos = behind_piece at (length word) (word ++ rest) pos (omega (arith, length-append word rest)) ∙ ap (reading 0 (at + length word)) (drop_at word rest (length word) refl)

pub read_so : (at : ℕ) (bytes : List ℕ) (ts : List Token) → Reads at bytes ts → reading 0 at bytes ≡ whole ts
unfolding reading
read_so _ _ _ (Ended at) = refl
read_so _ _ _ (Blank at b rest ts blank more) = rw (blank_front b rest blank) (read_so (at + 1) rest ts more)
read_so _ _ _ (Comment at comment rest bytes ts is_comment is more) =
    rw is (stepped at (comment ++ rest) (omega (arith, is_comment.0, length-append comment rest)) ∙ rw (comment_front comment rest is_comment, goes_behind at comment rest is_comment.0) (read_so (at + length comment) rest ts more))
read_so _ _ _ (Lexed at kind word rest bytes ts lexeme is more) =
    let f = lexeme_front kind word rest lexeme in
    rw is (stepped at (word ++ rest) (omega (arith, f.1, length-append word rest)) ∙ rw (f.0, goes_behind at word rest f.1, read_so (at + length word) rest ts more) refl)

pub one_list : (text : List ℕ) (ts us : List Token) → Reads 0 text ts → Reads 0 text us → ts ≡ us
one_list text ts us r s = ap (λ (read : Reading). read.tokens) (sym (read_so 0 text ts r) ∙ read_so 0 text us s)

pub answers : (text : List ℕ) (ts : List Token) → Reads 0 text ts → result_of_reading (reading 0 0 text) ≡ Ok ts
answers text ts r = ap result_of_reading (read_so 0 text ts r)

abbrev done : List Token → Result (List Token) TextFault
done ts = Ok ts

ok_is_no_fault : (ts : List Token) (f : TextFault) → done ts ≡ Err f → ⊥
ok_is_no_fault ts f e = absurd cc

-- where the expected answer is a list, the only fault is out of memory
pub only_memory : (text : List ℕ) (ts : List Token) (fault : TextFault) → (fault ≢ faults.Memory → result_of_reading (reading 0 0 text) ≡ Err fault) → Reads 0 text ts → fault ≡ faults.Memory
only_memory text ts faults.Memory gives r = refl
only_memory text ts (faults.BadChar at) gives r = absurd (ok_is_no_fault ts _ (sym (answers text ts r) ∙ gives (λ e. cc)))
only_memory text ts (faults.BadNumber at) gives r = absurd (ok_is_no_fault ts _ (sym (answers text ts r) ∙ gives (λ e. cc)))
only_memory text ts (faults.OpenText at) gives r = absurd (ok_is_no_fault ts _ (sym (answers text ts r) ∙ gives (λ e. cc)))

-- and so of any result
pub only_memory_by : {V : Type 0} (r : Result V TextFault) (text : List ℕ) → IfErr r (λ fault. fault ≢ faults.Memory → result_of_reading (reading 0 0 text) ≡ Err fault)
    → (ts : List Token) → Reads 0 text ts → IfErr r (λ fault. fault ≡ faults.Memory)
only_memory_by (Ok v) text h ts reads = tt
only_memory_by (Err f) text h ts reads = only_memory text ts f h reads
