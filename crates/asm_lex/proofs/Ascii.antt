-- Names and numbers are ASCII.
use Rattle.std.proofs.Common.{◌≡◌, ℕ, ◌-◌, ◌<◌, true, List, [], ◌∷◌, length, take, drop, subst, arith, inl, inr, length-drop}
use Rattle.std.specs.Prelude.{slice_index}
use Rattle.std.specs.Str.{IsAscii}
use Rattle.std.proofs.lemmas.Str.{IsAscii-take}
use Rattle.std.proofs.lemmas.List.{get_or_past}
use Rattle.std.proofs.lemmas.Bool.{cases_lt}
use Rattle.asm_lex.specs.declared.token.Token.{Token}
use Rattle.asm_lex.specs.declared.token.Kind.{Kind}
use Rattle.asm_lex.specs.declared.token.Kind.TheVariants as kinds
use Rattle.asm_lex.specs.declared.piece.Piece.TheVariants as pieces
use Rattle.asm_lex.specs.Bytes.{is_name_byte}
use Rattle.asm_lex.specs.Grammar.{IsLongestRun, IsLexeme}
use Rattle.asm_lex.specs.Pieces.{front}
use Rattle.asm_lex.specs.Reading.{IsPieceOf}
use Rattle.asm_lex.specs.Lexemes.{without_last, text_in}
use Rattle.asm_lex.proofs.Found.{IsPiece, front_found}

name_byte_small : (b : ℕ) → is_name_byte b ≡ true → b < 128
name_byte_small b h = grind (arith, h)

run_is_ascii : (word rest : List ℕ) → IsLongestRun is_name_byte word rest → IsAscii word
run_is_ascii word rest run = λ i. elim (cases_lt i (length word)) [
  | inl lt ↦ name_byte_small (slice_index word i) (run.each i lt)
  | inr past ↦ rw (get_or_past word i 0 past) (omega arith)
]

-- the kinds whose tokens are runs of name characters
abbrev IsWord : Kind → Type 0
IsWord kinds.Name = Unit {0}
IsWord (kinds.Number n) = Unit {0}
IsWord kinds.Back = Unit {0}
IsWord kinds.Ahead = Unit {0}
IsWord _ = ⊥

lexeme_is_ascii : (kind : Kind) (word rest : List ℕ) → IsWord kind → IsLexeme kind word rest → IsAscii word
lexeme_is_ascii kinds.Name word rest w h = run_is_ascii word rest h.2
lexeme_is_ascii (kinds.Number n) word rest w h = run_is_ascii word rest h.2
lexeme_is_ascii kinds.Back word rest w h = run_is_ascii word rest h.2
lexeme_is_ascii kinds.Ahead word rest w h = run_is_ascii word rest h.2
lexeme_is_ascii _ word rest w h = absurd w

piece_is_ascii : (text : List ℕ) (kind : Kind) (n : ℕ) → 0 < length text → front text ≡ pieces.Lexeme kind n → IsWord kind → IsAscii (take n text)
piece_is_ascii [] kind n pos e w = absurd (omega arith)
piece_is_ascii (b ∷ bs) kind n pos e w =
    let p : IsPiece (b ∷ bs) (pieces.Lexeme kind n) = subst (IsPiece (b ∷ bs)) e (front_found b bs) in
    lexeme_is_ascii kind (take n (b ∷ bs)) (drop n (b ∷ bs)) w p.2

pub token_is_ascii : (source : List ℕ) (t : Token) → IsPieceOf source t → IsWord t.kind → IsAscii (text_in source t)
token_is_ascii source t piece w = piece_is_ascii (drop t.start source) t.kind (t.end - t.start) (omega (arith, piece.nonempty, piece.within, length-drop t.start source)) piece.piece w

pub name_is_ascii : (source : List ℕ) (t : Token) → IsPieceOf source t → t.kind ≡ kinds.Name → IsAscii (text_in source t)
name_is_ascii source t piece e = token_is_ascii source t piece (rw e tt)

pub number_is_ascii : (source : List ℕ) (t : Token) (n : ℕ) → IsPieceOf source t → t.kind ≡ kinds.Number n → IsAscii (text_in source t)
number_is_ascii source t n piece e = token_is_ascii source t piece (rw e tt)

pub back_is_ascii : (source : List ℕ) (t : Token) → IsPieceOf source t → t.kind ≡ kinds.Back → IsAscii (without_last (text_in source t))
back_is_ascii source t piece e = IsAscii-take (text_in source t) (length (text_in source t) - 1) (token_is_ascii source t piece (rw e tt))

pub ahead_is_ascii : (source : List ℕ) (t : Token) → IsPieceOf source t → t.kind ≡ kinds.Ahead → IsAscii (without_last (text_in source t))
ahead_is_ascii source t piece e = IsAscii-take (text_in source t) (length (text_in source t) - 1) (token_is_ascii source t piece (rw e tt))
