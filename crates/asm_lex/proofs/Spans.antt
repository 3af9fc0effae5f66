-- The tokens' bytes do not depend on their places.
use Rattle.std.proofs.Common.{◌≡◌, ℕ, zero, suc, ◌+◌, ◌-◌, List, [], ◌∷◌, ◌++◌, length, take, drop, refl, ap, ◌∙◌, arith, append_assoc, length-append}
use Rattle.std.proofs.lemmas.List.{drop_at}
use Rattle.asm_lex.specs.declared.token.Kind.{Kind}
use Rattle.asm_lex.specs.declared.piece.Piece.{Piece}
use Rattle.asm_lex.specs.declared.piece.Piece.TheVariants as pieces
use Rattle.asm_lex.specs.Pieces.{front}
use Rattle.asm_lex.specs.Reading.{Reading, with_token, with_piece, reading}
use Rattle.asm_lex.specs.Lexemes.{Lexed, lexeme, lexed_of, with_lexeme, by_piece, lexed}

behind_lexemes : (text : List ℕ) (kind : Kind) (at n : ℕ) (r : Reading) → lexed_of text (with_token (record { kind = kind; start = at; end = at + n }) r) ≡ with_lexeme (lexeme kind (take n (drop at text))) (lexed_of text r)
behind_lexemes text kind at n r = let e : at + n - at ≡ n = omega arith in rw e refl

by_pieces : (text : List ℕ) (at : ℕ) (p : Piece) (bs : List ℕ) (read : ℕ → Reading) (word : ℕ → Lexed) → drop at text ≡ bs → ((n : ℕ) → lexed_of text (read n) ≡ word n)
    → lexed_of text (with_piece at p read) ≡ by_piece p bs word
by_pieces text at (pieces.Gap n) bs read word is same = same n
by_pieces text at (pieces.Lexeme kind n) bs read word is same = behind_lexemes text kind at n (read n) ∙ rw is (ap (with_lexeme (lexeme kind (take n bs))) (same n))
by_pieces text at pieces.BadChar bs read word is same = refl
by_pieces text at pieces.BadNumber bs read word is same = refl
by_pieces text at pieces.OpenText bs read word is same = refl

push : (done : List ℕ) (b : ℕ) (bs : List ℕ) (n : ℕ) (r : Lexed) → lexed_of ((done ++ b ∷ []) ++ bs) (reading n (length (done ++ b ∷ [])) bs) ≡ r → lexed_of (done ++ b ∷ bs) (reading n (length done + 1) bs) ≡ r
push done b bs n r e = rw (append_assoc, length-append done (b ∷ [])) at e

spans : (bs : List ℕ) (inside : ℕ) (done : List ℕ) → lexed_of (done ++ bs) (reading inside (length done) bs) ≡ lexed inside bs
unfolding reading lexed
spans [] inside done = refl
spans (b ∷ bs) (suc inside) done = push done b bs inside _ (spans bs inside (done ++ b ∷ []))
spans (b ∷ bs) zero done = by_pieces (done ++ b ∷ bs) (length done) (front (b ∷ bs)) (b ∷ bs) _ _ (drop_at done (b ∷ bs) (length done) refl) (λ n. push done b bs (n - 1) _ (spans bs (n - 1) (done ++ b ∷ [])))

pub spans_from : (text : List ℕ) → lexed_of text (reading 0 0 text) ≡ lexed 0 text
spans_from text = spans text 0 []
