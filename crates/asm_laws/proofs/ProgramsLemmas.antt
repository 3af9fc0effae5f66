-- A program of texts has the statements that they say where one symbol table puts them; it is the
-- only one. If the result is a fault, it is that of the texts, and there is no such program.
use Rattle.std.proofs.Common.{◌≡◌, ℕ, ◌↔◌, List, Result, Ok, Err, refl, sym, ap, ◌∙◌, inl, inr}
use Rattle.std.specs.Prelude.{IfOk, IfErr}
use Rattle.asm_statement.specs.Answer.{GivesStatements, FailsToRead, ◌>>=◌}
use Rattle.asm_statement.specs.Statement.{StatementValue}
use Rattle.asm_statement.specs.Statements.{statements_of}
use Rattle.asm_statement.specs.declared.fault.AsmFault.{AsmFault}
use Rattle.asm_statement.specs.declared.fault.AsmFault.TheVariants as faults
use Rattle.asm_statement.specs.declared.fault.Fault.{Fault}
use Rattle.asm_assemble.specs.Program.{ProgramValue}
use Rattle.asm_assemble.specs.Assembled.{assembled}
use Rattle.asm_assemble.specs.Sources.{assembled_texts}
use Rattle.asm_assemble.proofs.PlacedSteps.{unbound}
use Rattle.asm_assemble.proofs.PlacedWhole.{assembled_is_placed}
use Rattle.asm_assemble.proofs.PlacedOneProgram.{placed_is_assembled}
use Rattle.asm_laws.specs.Programs.{IsProgramOf, HasNoProgram, IsFaultOf, HasFault}
use Rattle.asm_laws.proofs.FaultsLemmas.{first_fault}
use Rattle.asm_laws.proofs.ReadsLemmas.{ok_iff, err_iff}

abbrev read_well : List StatementValue → Result (List StatementValue) Fault
read_well ss = Ok ss

abbrev made_well : ProgramValue → Result ProgramValue Fault
made_well p = Ok p

same_program : (p q : ProgramValue) → made_well p ≡ made_well q → q ≡ p
same_program p q e = cc

not_both : (p : ProgramValue) (fault : Fault) → made_well p ≡ Err fault → ⊥
not_both p fault e = absurd cc

not_read : (ss : List StatementValue) (fault : Fault) → read_well ss ≡ Err fault → ⊥
not_read ss fault e = absurd cc

-- a program of texts that are read as these statements is the one that they are assembled to
is_assembled : (texts : List (List ℕ)) (ss : List StatementValue) (q : ProgramValue) → statements_of texts ≡ Ok ss → IsProgramOf texts q → assembled ss ≡ Ok q
is_assembled texts ss q read h =
    ap (λ (r : Result (List StatementValue) Fault). r >>= assembled) (sym read ∙ (ok_iff texts h.statements).1 h.said) ∙ placed_is_assembled h.statements q h.placed

-- ---- texts that are read
pub is_program : (texts : List (List ℕ)) (ss : List StatementValue) (r : Result ProgramValue AsmFault) → statements_of texts ≡ Ok ss
    → GivesStatements (λ (p : ProgramValue). p) r (assembled ss) → IfOk r (λ p. IsProgramOf texts p)
is_program texts ss (Ok p) read given = record { statements = ss; said = (ok_iff texts ss).0 read; placed = assembled_is_placed ss p given }
is_program texts ss (Err fault) read given = tt

pub only_program : (texts : List (List ℕ)) (ss : List StatementValue) (r : Result ProgramValue AsmFault) → statements_of texts ≡ Ok ss
    → GivesStatements (λ (p : ProgramValue). p) r (assembled ss) → IfOk r (λ p. (q : ProgramValue) → IsProgramOf texts q → q ≡ p)
only_program texts ss (Ok p) read given = λ q h. same_program p q (sym given ∙ is_assembled texts ss q read h)
only_program texts ss (Err fault) read given = tt

pub no_program : (texts : List (List ℕ)) (ss : List StatementValue) (r : Result ProgramValue AsmFault) → statements_of texts ≡ Ok ss
    → GivesStatements (λ (p : ProgramValue). p) r (assembled ss) → IfErr r (HasNoProgram texts)
no_program texts ss (Ok p) read given = tt
no_program texts ss (Err (faults.At fault)) read given = λ q h. not_both q fault (sym (is_assembled texts ss q read h) ∙ given)
no_program texts ss (Err faults.Memory) read given = tt

pub has_fault : (texts : List (List ℕ)) (ss : List StatementValue) (r : Result ProgramValue AsmFault) → statements_of texts ≡ Ok ss
    → GivesStatements (λ (p : ProgramValue). p) r (assembled ss) → IfErr r (HasFault texts)
has_fault texts ss (Ok p) read given = tt
has_fault texts ss (Err (faults.At fault)) read given = inr (ss, (ok_iff texts ss).0 read, (first_fault ss fault).0 given)
has_fault texts ss (Err faults.Memory) read given = tt

-- ---- texts of which a part is wrong
pub unread_has_no_program : (texts : List (List ℕ)) (fault : AsmFault) → FailsToRead fault (statements_of texts) → HasNoProgram texts fault
unread_has_no_program texts (faults.At fault) told = λ q h. not_read h.statements fault (sym ((ok_iff texts h.statements).1 h.said) ∙ told)
unread_has_no_program texts faults.Memory told = tt

pub unread_has_fault : (texts : List (List ℕ)) (fault : AsmFault) → FailsToRead fault (statements_of texts) → HasFault texts fault
unread_has_fault texts (faults.At fault) told = inl ((err_iff texts fault).0 told)
unread_has_fault texts faults.Memory told = tt

-- ---- the law
pub program_iff : (texts : List (List ℕ)) (p : ProgramValue) → (assembled_texts texts ≡ Ok p) ↔ IsProgramOf texts p
unfolding assembled_texts
program_iff texts p = (given, made)
  where
    given : (statements_of texts >>= assembled) ≡ Ok p → IsProgramOf texts p
    given e =
        let step = unbound (statements_of texts) assembled p e in
        record { statements = step.value; said = (ok_iff texts step.value).0 step.was; placed = assembled_is_placed step.value p step.then }

    made : IsProgramOf texts p → (statements_of texts >>= assembled) ≡ Ok p
    made h = ap (λ (r : Result (List StatementValue) Fault). r >>= assembled) ((ok_iff texts h.statements).1 h.said) ∙ placed_is_assembled h.statements p h.placed

abbrev misread : Fault → Result (List StatementValue) Fault
misread fault = Err fault

abbrev made_badly : Fault → Result ProgramValue Fault
made_badly fault = Err fault

same_fault : (f g : Fault) → made_badly f ≡ made_badly g → f ≡ g
same_fault f g e = cc

fault_given : (texts : List (List ℕ)) (fault : Fault) (r : Result (List StatementValue) Fault) → statements_of texts ≡ r → (r >>= assembled) ≡ Err fault → IsFaultOf texts fault
fault_given texts fault (Ok ss) read e = inr (ss, (ok_iff texts ss).0 read, (first_fault ss fault).0 e)
fault_given texts fault (Err other) read e = inl ((err_iff texts fault).0 (read ∙ ap misread (same_fault other fault e)))

fault_made : (texts : List (List ℕ)) (fault : Fault) → IsFaultOf texts fault → (statements_of texts >>= assembled) ≡ Err fault
fault_made texts fault (inl h) = ap (λ (r : Result (List StatementValue) Fault). r >>= assembled) ((err_iff texts fault).1 h)
fault_made texts fault (inr h) = ap (λ (r : Result (List StatementValue) Fault). r >>= assembled) ((ok_iff texts h.0).1 h.1) ∙ (first_fault h.0 fault).1 h.2

pub fault_iff : (texts : List (List ℕ)) (fault : Fault) → (assembled_texts texts ≡ Err fault) ↔ IsFaultOf texts fault
unfolding assembled_texts
fault_iff texts fault = (λ e. fault_given texts fault (statements_of texts) refl e, λ h. fault_made texts fault h)
