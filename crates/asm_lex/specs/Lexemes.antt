-- Tokens by their bytes, without their places: the statements of a text are a function of them.
use Rattle.std.specs.Prelude.{ℕ, zero, suc, ◌≡◌, ◌-◌, ◌<◌, ◌≤◌, List, [], ◌∷◌, map, length, take, drop, Bool, true, false, Option, Some, None}
use Rattle.asm_lex.specs.declared.lexeme.Lexeme as l
use Rattle.asm_lex.specs.declared.lexeme.Lexeme.TheVariants as lexemes
use Rattle.asm_lex.specs.declared.lexeme.Next.{Next}
use Rattle.asm_lex.specs.declared.lexeme.Next.TheVariants as nexts
use Rattle.asm_lex.specs.declared.token.Token.{Token}
use Rattle.asm_lex.specs.declared.token.Kind.{Kind}
use Rattle.asm_lex.specs.declared.token.Kind.TheVariants as kinds
use Rattle.asm_lex.specs.declared.fault.TextFault.{TextFault}
use Rattle.asm_lex.specs.declared.piece.Piece.{Piece}
use Rattle.asm_lex.specs.declared.piece.Piece.TheVariants as pieces
use Rattle.asm_lex.specs.Pieces.{front}
use Rattle.asm_lex.specs.Reading.{Reading}

pub data Lexeme : Type 0 where
  Word : List ℕ → Lexeme
  Number : ℕ → List ℕ → Lexeme
  Back : List ℕ → Lexeme
  Ahead : List ℕ → Lexeme
  Text : List ℕ → Lexeme
  Comma : Lexeme
  Open : Lexeme
  Close : Lexeme
  Plus : Lexeme
  Minus : Lexeme
  Percent : Lexeme
  Colon : Lexeme
  Semicolon : Lexeme
  Other : ℕ → Lexeme
  LineEnd : Lexeme

-- a lexeme of the code, without the address of its bytes
abbrev pub seen : l.Lexeme → Lexeme
seen (lexemes.Name text) = Word text.now
seen (lexemes.Number n text) = Number n text.now
seen (lexemes.Back text) = Back text.now
seen (lexemes.Ahead text) = Ahead text.now
seen (lexemes.Text text) = Text text.now
seen lexemes.Comma = Comma
seen lexemes.Open = Open
seen lexemes.Close = Close
seen lexemes.Plus = Plus
seen lexemes.Minus = Minus
seen lexemes.Percent = Percent
seen lexemes.Colon = Colon
seen lexemes.Semicolon = Semicolon
seen (lexemes.Other b) = Other b
seen lexemes.LineEnd = LineEnd

-- all bytes but the last
abbrev pub without_last : List ℕ → List ℕ
without_last word = take (length word - 1) word

-- a token of a kind, by its bytes; a reference by its digits
abbrev pub lexeme : Kind → List ℕ → Lexeme
lexeme kinds.Name word = Word word
lexeme (kinds.Number n) word = Number n word
lexeme kinds.Back word = Back (without_last word)
lexeme kinds.Ahead word = Ahead (without_last word)
lexeme kinds.Text word = Text word
lexeme kinds.Comma word = Comma
lexeme kinds.Open word = Open
lexeme kinds.Close word = Close
lexeme kinds.Plus word = Plus
lexeme kinds.Minus word = Minus
lexeme kinds.Percent word = Percent
lexeme kinds.Colon word = Colon
lexeme kinds.Semicolon word = Semicolon
lexeme (kinds.Other b) word = Other b
lexeme kinds.LineEnd word = LineEnd

-- the bytes of a token
abbrev pub text_in : List ℕ → Token → List ℕ
text_in source t = take (t.end - t.start) (drop t.start source)

abbrev pub lexeme_in : List ℕ → Token → Lexeme
lexeme_in source t = lexeme t.kind (text_in source t)

abbrev pub lexemes_in : List ℕ → List Token → List Lexeme
lexemes_in source ts = map (lexeme_in source) ts

-- the lexemes before the first fault of a text, and whether it has none
pub record Lexed : Type 0 where
  pub lexemes : List Lexeme
  pub whole : Bool

abbrev pub is_none : Option TextFault → Bool
is_none None = true
is_none (Some f) = false

-- the lexemes of a reading
abbrev pub lexed_of : List ℕ → Reading → Lexed
lexed_of source r = record { lexemes = lexemes_in source r.tokens; whole = is_none r.fault }

abbrev pub with_lexeme : Lexeme → Lexed → Lexed
with_lexeme l r = record { lexemes = l ∷ r.lexemes; whole = r.whole }

abbrev pub broken : Lexed
broken = record { lexemes = []; whole = false }

abbrev pub by_piece : Piece → List ℕ → (ℕ → Lexed) → Lexed
by_piece (pieces.Gap n) text rest = rest n
by_piece (pieces.Lexeme kind n) text rest = with_lexeme (lexeme kind (take n text)) (rest n)
by_piece pieces.BadChar text rest = broken
by_piece pieces.BadNumber text rest = broken
by_piece pieces.OpenText text rest = broken

-- The lexemes of bytes of which the first `inside` belong to the piece before them.
unfoldable pub lexed : ℕ → List ℕ → Lexed
lexed inside [] = record { lexemes = []; whole = true }
lexed (suc inside) (b ∷ bs) = lexed inside bs
lexed zero (b ∷ bs) = by_piece (front (b ∷ bs)) (b ∷ bs) (λ n. lexed (n - 1) bs)

-- the next item at an offset: a lexeme and the offset after it, the end, or a fault
abbrev pub IsNext : List ℕ → ℕ → Next → Type 0
IsNext source from (nexts.Lexeme l end) =
    (from < end) × (end ≤ length source) × (lexed 0 (drop from source) ≡ with_lexeme (seen l) (lexed 0 (drop end source)))
IsNext source from nexts.End = lexed 0 (drop from source) ≡ record { lexemes = []; whole = true }
IsNext source from nexts.Fault = lexed 0 (drop from source) ≡ broken
