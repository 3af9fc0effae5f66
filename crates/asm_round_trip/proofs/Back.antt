-- A line that reads back as the statement of its bytes.
use Rattle.std.proofs.Common.{◌≡◌, ℕ, true, List, [], ◌∷◌, ◌++◌, Ok}
use Rattle.asm_lex.specs.Bytes.{is_name_byte}
use Rattle.asm_lex.specs.Grammar.{StopsBefore}
use Rattle.asm_lex.specs.Lexemes.{Lexeme, LineEnd}
use Rattle.asm_statement.specs.Answer.{◌>>=◌}
use Rattle.asm_statement.specs.Statement.{StatementValue, BodyValue}
use Rattle.asm_statement.specs.Statements.{stated, statement_from, source_from, next_place}
use Rattle.asm_statement.specs.declared.place.Place.{Place}
use Rattle.asm_statement.specs.declared.statement.Section.TheVariants as sections
use Rattle.asm_round_trip.proofs.Atoms.{Atom, shown, lexemes, Apart}
use Rattle.asm_round_trip.proofs.Stands.{Stands}

-- a place in the text
abbrev pub text_place : ℕ → ℕ → Place
text_place source line = record { source = source; line = line; section = sections.Text }

-- the lexemes of one line are one statement
abbrev pub IsOneLine : List Atom → Type 0
IsOneLine atoms = (place : Place) (done : List StatementValue) (more : List Lexeme)
    → source_from true place done [] (lexemes atoms (LineEnd ∷ more)) ≡ (statement_from place done (lexemes atoms []) >>= λ r. source_from true (next_place place LineEnd r.1) r.0 [] more)

-- the lexemes of a statement in the text have this body
abbrev pub Says : List Lexeme → BodyValue → Type 0
Says ls b = (source line : ℕ) (done : List StatementValue)
    → statement_from (text_place source line) done ls ≡ Ok (done ++ stated (text_place source line) b ∷ [], sections.Text)

-- a line that reads back as a statement which gives bytes at an address
pub record IsBack (at : ℕ) (text bytes : List ℕ) : Type 0 where
  pub atoms : List Atom
  pub shows : (rest : List ℕ) → text ++ rest ≡ shown atoms rest
  pub apart : (rest : List ℕ) → StopsBefore is_name_byte rest → Apart atoms rest
  pub one_line : IsOneLine atoms
  pub body : BodyValue
  pub says : Says (lexemes atoms []) body
  pub stands : Stands at body bytes
