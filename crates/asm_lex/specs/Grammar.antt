-- The token rules as a grammar of whole texts.
use Rattle.std.specs.Prelude.{◌≡◌, ◌≢◌, ℕ, ◌+◌, ◌<◌, Bool, true, false, not, ◌==◌, List, [], ◌∷◌, ◌++◌, length, slice_index, drop, Some, None}
use Rattle.std.proofs.Common.{◌⊎◌}
use Rattle.asm_lex.specs.declared.token.Token.{Token}
use Rattle.asm_lex.specs.declared.token.Kind.{Kind}
use Rattle.asm_lex.specs.declared.token.Kind.TheVariants as kinds
use Rattle.asm_lex.specs.Bytes.{is_digit, is_name_byte, is_space_or_tab, is_printable}
use Rattle.asm_lex.specs.Numbers.{digits_number}
use Rattle.asm_lex.specs.Pieces.{reference_of, closing, sign_of}
use Rattle.asm_lex.specs.declared.piece.Piece.TheVariants as pieces

-- a run of bytes that pass the test, up to the first byte that does not
abbrev pub StopsBefore : (ℕ → Bool) → List ℕ → Type 0
StopsBefore passes [] = Unit {0}
StopsBefore passes (b ∷ bs) = passes b ≡ false

pub record IsLongestRun (passes : ℕ → Bool) (run rest : List ℕ) : Type 0 where
  pub each : (i : ℕ) → i < length run → passes (slice_index run i) ≡ true
  pub stops : StopsBefore passes rest

abbrev pub is_in_line : ℕ → Bool
is_in_line b = not (b == 10)

-- a printable character that begins neither a name, a string nor a comment
pub record IsSign (sign : Kind) (word : List ℕ) : Type 0 where
  pub byte : ℕ
  pub alone : word ≡ byte ∷ []
  pub printable : is_printable byte ≡ true
  pub no_name : is_name_byte byte ≡ false
  pub no_quote : byte ≢ 34
  pub no_comment : byte ≢ 35
  pub kind : sign_of byte ≡ sign

-- the bytes of a token, and what follows them
abbrev pub IsLexeme : Kind → List ℕ → List ℕ → Type 0
IsLexeme kinds.Name word rest = (0 < length word) × (is_digit (slice_index word 0) ≡ false) × IsLongestRun is_name_byte word rest
IsLexeme (kinds.Number n) word rest = (0 < length word) × (is_digit (slice_index word 0) ≡ true) × IsLongestRun is_name_byte word rest × (digits_number word ≡ Some n)
IsLexeme kinds.LineEnd word rest = (word ≡ 10 ∷ []) ⊎ (word ≡ 13 ∷ 10 ∷ [])
IsLexeme kinds.Back word rest = (0 < length word) × (is_digit (slice_index word 0) ≡ true) × IsLongestRun is_name_byte word rest × (digits_number word ≡ None) × (reference_of word ≡ pieces.Lexeme kinds.Back (length word))
IsLexeme kinds.Ahead word rest = (0 < length word) × (is_digit (slice_index word 0) ≡ true) × IsLongestRun is_name_byte word rest × (digits_number word ≡ None) × (reference_of word ≡ pieces.Lexeme kinds.Ahead (length word))
IsLexeme kinds.Text word rest = (n : ℕ) × (length word ≡ n + 2) × (slice_index word 0 ≡ 34) × (closing false (drop 1 (word ++ rest)) ≡ Some n)
IsLexeme sign word rest = IsSign sign word

-- `#` and the rest of its line
abbrev pub IsComment : List ℕ → List ℕ → Type 0
IsComment comment rest = (0 < length comment) × (slice_index comment 0 ≡ 35) × IsLongestRun is_in_line comment rest

-- A text from an offset on, and its tokens.
pub data Reads : ℕ → List ℕ → List Token → Type 0 where
  Ended : (at : ℕ) → Reads at [] []
  Blank : (at b : ℕ) (rest : List ℕ) (ts : List Token) → is_space_or_tab b ≡ true → Reads (at + 1) rest ts → Reads at (b ∷ rest) ts
  Comment : (at : ℕ) (comment rest bytes : List ℕ) (ts : List Token) → IsComment comment rest → bytes ≡ comment ++ rest → Reads (at + length comment) rest ts → Reads at bytes ts
  Lexed : (at : ℕ) (kind : Kind) (word rest bytes : List ℕ) (ts : List Token) → IsLexeme kind word rest → bytes ≡ word ++ rest → Reads (at + length word) rest ts
      → Reads at bytes (record { kind = kind; start = at; end = at + length word } ∷ ts)
