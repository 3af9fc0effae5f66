-- The first fault of a text: the first place at which no token, no blank and no comment stands.
-- `asm_lex` says how tokens are read one after another; the law of src/tokens.rt says that both are
-- the same.
use Rattle.std.specs.Prelude.{◌≡◌, ◌≢◌, ℕ, ◌+◌, ◌<◌, ◌==◌, true, false, List, ◌∷◌, ◌++◌, length, slice_index, if◌then◌else◌}
use Rattle.asm_lex.specs.Bytes.{is_digit, is_space_or_tab}
use Rattle.asm_lex.specs.Grammar.{IsComment, IsLexeme}
use Rattle.asm_lex.specs.declared.fault.TextFault.{TextFault}
use Rattle.asm_lex.specs.declared.fault.TextFault.TheVariants as faults
use Rattle.asm_lex.specs.declared.token.Kind.{Kind}

-- bytes that begin with none of these
pub record HasNoToken (bytes : List ℕ) : Type 0 where
  pub some : 0 < length bytes
  pub no_blank : is_space_or_tab (slice_index bytes 0) ≡ false
  pub no_comment : slice_index bytes 0 ≢ 35
  pub no_token : (kind : Kind) (word rest : List ℕ) → bytes ≡ word ++ rest → IsLexeme kind word rest → ⊥

-- the fault of such bytes at an offset: of a string, of a number, or of any other character
abbrev pub token_fault : ℕ → ℕ → TextFault
token_fault at b =
    if b == 34 then faults.OpenText at else (if is_digit b then faults.BadNumber at else faults.BadChar at)

-- a text from an offset on has this fault behind blanks, comments and tokens
pub data StopsWith : ℕ → List ℕ → TextFault → Type 0 where
  Here : (at : ℕ) (bytes : List ℕ) → HasNoToken bytes → StopsWith at bytes (token_fault at (slice_index bytes 0))
  BehindBlank : (at b : ℕ) (rest : List ℕ) (fault : TextFault) → is_space_or_tab b ≡ true
      → StopsWith (at + 1) rest fault → StopsWith at (b ∷ rest) fault
  BehindComment : (at : ℕ) (comment rest bytes : List ℕ) (fault : TextFault) → IsComment comment rest → bytes ≡ comment ++ rest
      → StopsWith (at + length comment) rest fault → StopsWith at bytes fault
  BehindToken : (at : ℕ) (kind : Kind) (word rest bytes : List ℕ) (fault : TextFault) → IsLexeme kind word rest → bytes ≡ word ++ rest
      → StopsWith (at + length word) rest fault → StopsWith at bytes fault
