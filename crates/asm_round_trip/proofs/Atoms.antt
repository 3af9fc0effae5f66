-- A text made of words with proper ends.
use Rattle.std.specs.Prelude.{◌≡◌, ℕ, ◌<◌, ◌==◌, Bool, true, false, List, [], ◌∷◌, ◌++◌, Some, slice_index, length}
use Rattle.std.specs.List.{list_all}
use Rattle.asm_lex.specs.Bytes.{is_digit, is_name_byte, is_printable}
use Rattle.asm_lex.specs.Numbers.{digits_number}
use Rattle.asm_lex.specs.Pieces.{sign_of}
use Rattle.asm_lex.specs.Grammar.{StopsBefore, is_in_line}
use Rattle.asm_lex.specs.Lexemes.{Lexeme, Word, Number, LineEnd, Lexed, lexeme}

pub data Atom : Type 0 where
  Name : List ℕ → Atom
  Numeral : ℕ → List ℕ → Atom
  Sign : ℕ → Atom
  Gap : Atom
  Remark : List ℕ → Atom
  Line : Atom

-- the bytes, and those that follow
abbrev pub shown : List Atom → List ℕ → List ℕ
shown [] rest = rest
shown (Name w ∷ atoms) rest = w ++ shown atoms rest
shown (Numeral n w ∷ atoms) rest = w ++ shown atoms rest
shown (Sign b ∷ atoms) rest = b ∷ shown atoms rest
shown (Gap ∷ atoms) rest = 32 ∷ shown atoms rest
shown (Remark c ∷ atoms) rest = 35 ∷ (c ++ shown atoms rest)
shown (Line ∷ atoms) rest = 10 ∷ shown atoms rest

-- the lexeme of a sign
abbrev pub sign : ℕ → Lexeme
sign b = lexeme (sign_of b) (b ∷ [])

-- the lexemes, and those that follow
abbrev pub lexemes : List Atom → List Lexeme → List Lexeme
lexemes [] rest = rest
lexemes (Name w ∷ atoms) rest = Word w ∷ lexemes atoms rest
lexemes (Numeral n w ∷ atoms) rest = Number n w ∷ lexemes atoms rest
lexemes (Sign b ∷ atoms) rest = sign b ∷ lexemes atoms rest
lexemes (Gap ∷ atoms) rest = lexemes atoms rest
lexemes (Remark c ∷ atoms) rest = lexemes atoms rest
lexemes (Line ∷ atoms) rest = LineEnd ∷ lexemes atoms rest

-- the lexemes, and then what the rest reads as
abbrev pub afterwards : List Atom → Lexed → Lexed
afterwards atoms rest = record { lexemes = lexemes atoms rest.lexemes; whole = rest.whole }

-- name characters only
abbrev pub is_word : List ℕ → Bool
is_word w = list_all is_name_byte w

-- a name
pub record IsName (w : List ℕ) : Type 0 where
  pub some : 0 < length w
  pub bytes : is_word w ≡ true
  pub no_digit : is_digit (slice_index w 0) ≡ false

-- a text of a number
pub record IsNumber (n : ℕ) (w : List ℕ) : Type 0 where
  pub some : 0 < length w
  pub bytes : is_word w ≡ true
  pub digit : is_digit (slice_index w 0) ≡ true
  pub value : digits_number w ≡ Some n

-- a character that stands for itself
pub record IsSignByte (b : ℕ) : Type 0 where
  pub printable : is_printable b ≡ true
  pub no_name : is_name_byte b ≡ false
  pub no_quote : (b == 34) ≡ false
  pub no_hash : (b == 35) ≡ false

-- each word is what it should be, and ends before a byte that does not continue it
abbrev pub Apart : List Atom → List ℕ → Type 0
Apart [] rest = Unit {0}
Apart (Name w ∷ atoms) rest = IsName w × StopsBefore is_name_byte (shown atoms rest) × Apart atoms rest
Apart (Numeral n w ∷ atoms) rest = IsNumber n w × StopsBefore is_name_byte (shown atoms rest) × Apart atoms rest
Apart (Sign b ∷ atoms) rest = IsSignByte b × Apart atoms rest
Apart (Gap ∷ atoms) rest = Apart atoms rest
Apart (Remark c ∷ atoms) rest = (list_all is_in_line c ≡ true) × StopsBefore is_in_line (shown atoms rest) × Apart atoms rest
Apart (Line ∷ atoms) rest = Apart atoms rest
