-- Statements, in order.
use Rattle.std.proofs.Common.{◌≡◌, List, [], ◌∷◌, ◌++◌, map, Result, Ok, Err, true, false, sym}
use Rattle.std.proofs.lemmas.List.{map_push}
use Rattle.asm_lex.specs.declared.lexeme.Lexeme as program
use Rattle.asm_lex.specs.Lexemes.{Lexed, broken, seen, with_lexeme}
use Rattle.asm_statement.specs.declared.fault.Fault.{Fault}
use Rattle.asm_statement.specs.declared.fault.FaultKind.TheVariants as faults
use Rattle.asm_statement.specs.declared.fault.AsmFault.{AsmFault}
use Rattle.asm_statement.specs.declared.fault.AsmFault.TheVariants as answers
use Rattle.asm_statement.specs.declared.statement.Section.{Section}
use Rattle.asm_statement.specs.declared.place.Place.{Place}
use Rattle.asm_statement.specs.Answer.{FailsToRead}
use Rattle.asm_statement.specs.Statement.{StatementValue}
use Rattle.asm_statement.specs.Statements.{at_the_end, ends_statement, fault_at, next_place, read_from, source_from, statement_from}

module _ (place : Place) (done : List StatementValue) (part : List program.Lexeme) (text : Lexed) (total : Result (List StatementValue) Fault) (so_far : read_from place done (map seen part) text ≡ total) where
  -- a lexeme that ends no statement joins it
  pub line_goes_on : (l : program.Lexeme) (rest : Lexed) → text ≡ with_lexeme (seen l) rest → ends_statement (seen l) ≡ false
      → read_from place done (map seen (part ++ l ∷ [])) rest ≡ total
  unfolding source_from
  line_goes_on l rest is other = rw (map_push seen part l) (rw (is, other) at so_far)

  -- a statement's end
  pub line_ends : (l : program.Lexeme) (rest : Lexed) (more : List StatementValue) (section : Section) → text ≡ with_lexeme (seen l) rest → ends_statement (seen l) ≡ true
      → statement_from place done (map seen part) ≡ Ok (more, section)
      → read_from (next_place place (seen l) section) more [] rest ≡ total
  unfolding source_from
  line_ends l rest more section is ends gives = rw (is, ends, gives) at so_far

  -- the first wrong statement decides
  line_fails : (l : program.Lexeme) (rest : Lexed) (fault : Fault) → text ≡ with_lexeme (seen l) rest → ends_statement (seen l) ≡ true
      → statement_from place done (map seen part) ≡ Err fault
      → total ≡ Err fault
  unfolding source_from
  line_fails l rest fault is ends gives = sym (rw (is, ends, gives) at so_far)

  -- the first statement with a fault decides
  pub line_refused : (l : program.Lexeme) (rest : Lexed) (fault : AsmFault) → text ≡ with_lexeme (seen l) rest → ends_statement (seen l) ≡ true
      → FailsToRead fault (statement_from place done (map seen part))
      → FailsToRead fault total
  line_refused l rest (answers.At fault) is ends gives = line_fails l rest fault is ends gives
  line_refused l rest answers.Memory is ends gives = tt

  -- the last statement
  pub at_end : text ≡ record { lexemes = []; whole = true } → total ≡ at_the_end true place (statement_from place done (map seen part))
  unfolding source_from
  at_end is = sym (rw is at so_far)

  -- what is no token
  pub at_fault : text ≡ broken → total ≡ Err (fault_at place faults.Token)
  unfolding source_from
  at_fault is = sym (rw is at so_far)
