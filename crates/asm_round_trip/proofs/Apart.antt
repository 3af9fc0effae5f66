-- A text of words with proper ends reads as these words.
use Rattle.std.proofs.Common.{◌≡◌, ℕ, zero, suc, ◌-◌, ◌<◌, Bool, true, false, List, [], ◌∷◌, ◌++◌, length, get_or, refl, sym, ap, ◌∙◌, arith, true≢false, ◌&&◌}
use Rattle.std.specs.List.{list_all}
use Rattle.std.proofs.lemmas.List.{take_at}
use Rattle.asm_lex.specs.declared.token.Kind.{Kind}
use Rattle.asm_lex.specs.declared.token.Kind.TheVariants as kinds
use Rattle.asm_lex.specs.declared.piece.Piece.TheVariants as pieces
use Rattle.asm_lex.specs.Bytes.{is_name_byte}
use Rattle.asm_lex.specs.Pieces.{front, sign_of, word_piece}
use Rattle.asm_lex.specs.Grammar.{StopsBefore, is_in_line, IsLongestRun}
use Rattle.asm_lex.proofs.Unique.{word_front, comment_front, sign_front}
use Rattle.asm_lex.specs.Lexemes.{Word, Number, LineEnd, lexeme, with_lexeme, lexed}
use Rattle.asm_round_trip.proofs.Atoms.{Atom, Name, Numeral, Sign, Gap, Remark, Line, shown, sign, afterwards, is_word, IsName, IsNumber, IsSignByte, Apart}

skip : (xs rest : List ℕ) → lexed (length xs) (xs ++ rest) ≡ lexed 0 rest
unfolding lexed
skip [] rest = refl
skip (x ∷ xs) rest = skip xs rest

and_left : (a b : Bool) → (a && b) ≡ true → a ≡ true
and_left true b e = refl
and_left false b e = e

and_right : (a b : Bool) → (a && b) ≡ true → b ≡ true
and_right true b e = e
and_right false b e = absurd (true≢false (sym e))

each_passes : (p : ℕ → Bool) (w : List ℕ) → list_all p w ≡ true → (i : ℕ) → i < length w → p (get_or w i 0) ≡ true
each_passes p [] e i lt = absurd (omega (arith, lt))
each_passes p (x ∷ w) e zero lt = and_left (p x) (list_all p w) e
each_passes p (x ∷ w) e (suc i) lt = each_passes p w (and_right (p x) (list_all p w) e) i (omega arith)

run : (p : ℕ → Bool) (w rest : List ℕ) → list_all p w ≡ true → StopsBefore p rest → IsLongestRun p w rest
run p w rest e stops = record { each = each_passes p w e; stops = stops }

-- any word
word_read : (w rest : List ℕ) (kind : Kind) → 0 < length w → is_word w ≡ true → StopsBefore is_name_byte rest → word_piece w ≡ pieces.Lexeme kind (length w) → lexed 0 (w ++ rest) ≡ with_lexeme (lexeme kind w) (lexed 0 rest)
unfolding lexed
word_read [] rest kind pos all stops is = absurd (omega arith)
word_read (b ∷ w) rest kind pos all stops is =
    let f : front (b ∷ (w ++ rest)) ≡ pieces.Lexeme kind (length (b ∷ w)) = word_front (b ∷ w) rest pos (run is_name_byte (b ∷ w) rest all stops) ∙ is in
    let n : length (b ∷ w) - 1 ≡ length w = omega arith in
    rw (f, take_at (b ∷ w) rest (length (b ∷ w)) refl, n, skip w rest) refl

pub name_read : (w rest : List ℕ) → IsName w → StopsBefore is_name_byte rest → lexed 0 (w ++ rest) ≡ with_lexeme (Word w) (lexed 0 rest)
unfolding word_piece
name_read w rest h stops = word_read w rest kinds.Name h.some h.bytes stops (rw h.no_digit refl)

pub number_read : (n : ℕ) (w rest : List ℕ) → IsNumber n w → StopsBefore is_name_byte rest → lexed 0 (w ++ rest) ≡ with_lexeme (Number n w) (lexed 0 rest)
unfolding word_piece
number_read n w rest h stops = word_read w rest (kinds.Number n) h.some h.bytes stops (rw (h.digit, h.value) refl)

pub sign_read : (b : ℕ) (rest : List ℕ) → IsSignByte b → lexed 0 (b ∷ rest) ≡ with_lexeme (sign b) (lexed 0 rest)
unfolding lexed
sign_read b rest h =
    let f : front (b ∷ rest) ≡ pieces.Lexeme (sign_of b) 1 = sign_front b rest h.printable h.no_name (λ e. true≢false (rw e at h.no_quote)) (λ e. true≢false (rw e at h.no_hash)) in
    rw f refl

pub gap_read : (rest : List ℕ) → lexed 0 (32 ∷ rest) ≡ lexed 0 rest
unfolding lexed front
gap_read rest = refl

pub line_read : (rest : List ℕ) → lexed 0 (10 ∷ rest) ≡ with_lexeme LineEnd (lexed 0 rest)
unfolding lexed front
line_read rest = refl

pub comment_read : (c rest : List ℕ) → list_all is_in_line c ≡ true → StopsBefore is_in_line rest → lexed 0 (35 ∷ (c ++ rest)) ≡ lexed 0 rest
unfolding lexed
comment_read c rest all stops =
    let f : front (35 ∷ (c ++ rest)) ≡ pieces.Gap (length (35 ∷ c)) = comment_front (35 ∷ c) rest (omega arith, refl, run is_in_line (35 ∷ c) rest all stops) in
    let n : length (35 ∷ c) - 1 ≡ length c = omega arith in
    rw f (ap (λ k. lexed k (c ++ rest)) n ∙ skip c rest)

pub atoms_read : (atoms : List Atom) (rest : List ℕ) → Apart atoms rest → lexed 0 (shown atoms rest) ≡ afterwards atoms (lexed 0 rest)
atoms_read [] rest h = refl
atoms_read (Name w ∷ atoms) rest h = name_read w (shown atoms rest) h.0 h.1 ∙ ap (with_lexeme (Word w)) (atoms_read atoms rest h.2)
atoms_read (Numeral n w ∷ atoms) rest h = number_read n w (shown atoms rest) h.0 h.1 ∙ ap (with_lexeme (Number n w)) (atoms_read atoms rest h.2)
atoms_read (Sign b ∷ atoms) rest h = sign_read b (shown atoms rest) h.0 ∙ ap (with_lexeme (sign b)) (atoms_read atoms rest h.1)
atoms_read (Gap ∷ atoms) rest h = gap_read (shown atoms rest) ∙ atoms_read atoms rest h
atoms_read (Remark c ∷ atoms) rest h = comment_read c (shown atoms rest) h.0 h.1 ∙ atoms_read atoms rest h.2
atoms_read (Line ∷ atoms) rest h = line_read (shown atoms rest) ∙ ap (with_lexeme LineEnd) (atoms_read atoms rest h)
