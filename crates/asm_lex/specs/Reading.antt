-- The tokens of a text, or its first fault.
use Rattle.std.specs.Prelude.{◌≡◌, ℕ, zero, suc, ◌<◌, ◌≤◌, length, drop, ◌+◌, ◌-◌, List, [], ◌∷◌, Option, Some, None, Result, Ok, Err}
use Rattle.asm_lex.specs.declared.token.Token.{Token}
use Rattle.asm_lex.specs.declared.fault.TextFault.{TextFault}
use Rattle.asm_lex.specs.declared.fault.TextFault.TheVariants as faults
use Rattle.asm_lex.specs.declared.piece.Piece.{Piece}
use Rattle.asm_lex.specs.declared.piece.Piece.TheVariants as pieces
use Rattle.asm_lex.specs.Pieces.{front}

-- tokens, and the fault that ends them, if any
pub record Reading : Type 0 where
  pub tokens : List Token
  pub fault : Option TextFault

-- a whole text, without a fault
abbrev pub whole : List Token → Reading
whole ts = record { tokens = ts; fault = None }

-- a token before a reading
abbrev pub with_token : Token → Reading → Reading
with_token t r = record { tokens = t ∷ r.tokens; fault = r.fault }

-- no token before a fault
abbrev pub stopped : TextFault → Reading
stopped f = record { tokens = []; fault = Some f }

-- a piece at an offset, and the reading after its length
abbrev pub with_piece : ℕ → Piece → (ℕ → Reading) → Reading
with_piece at (pieces.Gap n) rest = rest n
with_piece at (pieces.Lexeme kind n) rest = with_token (record { kind = kind; start = at; end = at + n }) (rest n)
with_piece at pieces.BadChar rest = stopped (faults.BadChar at)
with_piece at pieces.BadNumber rest = stopped (faults.BadNumber at)
with_piece at pieces.OpenText rest = stopped (faults.OpenText at)

-- The bytes from an offset on, of which the first `inside` belong to the piece before them.
unfoldable pub reading : ℕ → ℕ → List ℕ → Reading
reading inside at [] = whole []
reading (suc inside) at (b ∷ bs) = reading inside (at + 1) bs
reading zero at (b ∷ bs) = with_piece at (front (b ∷ bs)) (λ n. reading (n - 1) (at + 1) bs)

-- the answer of `tokens` for a reading, unless out of memory
abbrev pub tokens_or_fault : List Token → Option TextFault → Result (List Token) TextFault
tokens_or_fault ts None = Ok ts
tokens_or_fault ts (Some f) = Err f

abbrev pub result_of_reading : Reading → Result (List Token) TextFault
result_of_reading r = tokens_or_fault r.tokens r.fault

-- the token is the piece at its place
pub record IsPieceOf (text : List ℕ) (t : Token) : Type 0 where
  pub nonempty : t.start < t.end
  pub within : t.end ≤ length text
  pub piece : front (drop t.start text) ≡ pieces.Lexeme t.kind (t.end - t.start)
