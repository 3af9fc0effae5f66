-- Sources, in order.
use Rattle.std.proofs.Common.{◌≡◌, ℕ, ◌<◌, List, length, get_or, drop, Result, Err, sym}
use Rattle.std.specs.Borrow.{Bor}
use Rattle.std.proofs.Math.Seq.{drop-cons}
use Rattle.asm_lex.specs.Lexemes.{lexed}
use Rattle.asm_statement.specs.declared.fault.Fault.{Fault}
use Rattle.asm_statement.specs.declared.fault.AsmFault.{AsmFault}
use Rattle.asm_statement.specs.declared.fault.AsmFault.TheVariants as faults
use Rattle.asm_statement.specs.Answer.{FailsToRead}
use Rattle.asm_statement.specs.Statement.{StatementValue}
use Rattle.asm_statement.specs.Statements.{source_statements, sources_from, texts_of}

-- the first wrong source decides
source_fails : (done : List StatementValue) (fault : Fault) (xs : List (Bor (List ℕ))) (i : ℕ) (d : Bor (List ℕ)) (total : Result (List StatementValue) Fault) → i < length xs
    → source_statements i done (lexed 0 (get_or xs i d).now) ≡ Err fault
    → sources_from i done (texts_of (drop i xs)) ≡ total
    → total ≡ Err fault
unfolding sources_from
source_fails done fault xs i d total lt is so_far = sym (rw (drop-cons xs i d lt, is) at so_far)

-- the first source with a fault decides
pub source_refused : (fault : AsmFault) (done : List StatementValue) (xs : List (Bor (List ℕ))) (i : ℕ) (d : Bor (List ℕ)) (total : Result (List StatementValue) Fault) → i < length xs
    → FailsToRead fault (source_statements i done (lexed 0 (get_or xs i d).now))
    → sources_from i done (texts_of (drop i xs)) ≡ total
    → FailsToRead fault total
source_refused (faults.At fault) done xs i d total lt is so_far = source_fails done fault xs i d total lt is so_far
source_refused faults.Memory done xs i d total lt is so_far = tt
