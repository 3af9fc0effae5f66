-- Each word of a text is a name.
use Rattle.std.proofs.Common.{ℕ, zero, suc, ◌-◌, List, [], ◌∷◌, take, drop}
use Rattle.asm_lex.specs.declared.token.Kind.{Kind}
use Rattle.asm_lex.specs.declared.token.Kind.TheVariants as kinds
use Rattle.asm_lex.specs.declared.piece.Piece.{Piece}
use Rattle.asm_lex.specs.declared.piece.Piece.TheVariants as pieces
use Rattle.asm_lex.specs.Bytes.{is_name_byte}
use Rattle.asm_lex.specs.Grammar.{IsLexeme}
use Rattle.asm_lex.specs.Lexemes.{Lexeme, Word, Number, Back, Ahead, Text, Comma, Open, Close, Plus, Minus, Percent, Colon, Semicolon, Other, LineEnd, Lexed, lexeme, by_piece, lexed}
use Rattle.asm_lex.specs.Pieces.{front}
use Rattle.asm_lex.proofs.Found.{IsPiece, front_found}
use Rattle.elf_laws.specs.Labels.{IsWord}
use Rattle.elf_laws.proofs.Each.{Each, all_pass}

-- where a lexeme is a word, its bytes are a name
abbrev pub IsNamed : Lexeme → Type 0
IsNamed (Word name) = IsWord name
IsNamed (Number n word) = Unit {0}
IsNamed (Back digits) = Unit {0}
IsNamed (Ahead digits) = Unit {0}
IsNamed (Text bytes) = Unit {0}
IsNamed Comma = Unit {0}
IsNamed Open = Unit {0}
IsNamed Close = Unit {0}
IsNamed Plus = Unit {0}
IsNamed Minus = Unit {0}
IsNamed Percent = Unit {0}
IsNamed Colon = Unit {0}
IsNamed Semicolon = Unit {0}
IsNamed (Other b) = Unit {0}
IsNamed LineEnd = Unit {0}

word_is : (word rest : List ℕ) → IsLexeme kinds.Name word rest → IsWord word
word_is word rest h = record { some = h.0; no_digit_first = h.1; each = all_pass is_name_byte word h.2.each }

lexeme_named : (kind : Kind) (word rest : List ℕ) → IsLexeme kind word rest → IsNamed (lexeme kind word)
lexeme_named kinds.Name word rest h = word_is word rest h
lexeme_named (kinds.Number n) word rest h = tt
lexeme_named kinds.Back word rest h = tt
lexeme_named kinds.Ahead word rest h = tt
lexeme_named kinds.Text word rest h = tt
lexeme_named kinds.Comma word rest h = tt
lexeme_named kinds.Open word rest h = tt
lexeme_named kinds.Close word rest h = tt
lexeme_named kinds.Plus word rest h = tt
lexeme_named kinds.Minus word rest h = tt
lexeme_named kinds.Percent word rest h = tt
lexeme_named kinds.Colon word rest h = tt
lexeme_named kinds.Semicolon word rest h = tt
lexeme_named (kinds.Other b) word rest h = tt
lexeme_named kinds.LineEnd word rest h = tt

piece_named : (b : ℕ) (bs : List ℕ) (piece : Piece) → IsPiece (b ∷ bs) piece → (rest : ℕ → Lexed) → ((n : ℕ) → Each IsNamed (rest n).lexemes)
    → Each IsNamed (by_piece piece (b ∷ bs) rest).lexemes
piece_named b bs (pieces.Gap n) h rest more = more n
piece_named b bs (pieces.Lexeme kind n) h rest more = (lexeme_named kind (take n (b ∷ bs)) (drop n (b ∷ bs)) h.2, more n)
piece_named b bs pieces.BadChar h rest more = tt
piece_named b bs pieces.BadNumber h rest more = tt
piece_named b bs pieces.OpenText h rest more = tt

pub text_named : (inside : ℕ) (text : List ℕ) → Each IsNamed (lexed inside text).lexemes
unfolding lexed
text_named zero [] = tt
text_named (suc inside) [] = tt
text_named (suc inside) (b ∷ bs) = text_named inside bs
text_named zero (b ∷ bs) = piece_named b bs (front (b ∷ bs)) (front_found b bs) (λ n. lexed (n - 1) bs) (λ n. text_named (n - 1) bs)
