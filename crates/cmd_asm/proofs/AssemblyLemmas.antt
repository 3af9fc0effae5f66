-- The assembler's answer for sources.
use Rattle.std.proofs.Common.{◌≡◌, ℕ, List, Option, Some, None, IfSome, Ok, Err, Result, sym, ap, ◌∙◌}
use Rattle.asm_statement.specs.Answer.{FailsToRead}
use Rattle.asm_statement.specs.declared.fault.Fault.{Fault}
use Rattle.asm_statement.specs.declared.fault.AsmFault.{AsmFault}
use Rattle.asm_statement.specs.declared.fault.AsmFault.TheVariants as assembler
use Rattle.asm_assemble.specs.Program.{ProgramValue}
use Rattle.asm_assemble.specs.Sources.{assembled_texts}
use Rattle.cmd_asm.specs.Assembly.{from_statements, program_of_sources, program_unless, IsSourceFault}
use Rattle.cmd_asm.specs.Faults.{fault_of_assembler}
use Rattle.cmd_asm.specs.Sources.{first_other, IfNotText, IsOfReading}
use Rattle.cmd_asm.specs.declared.fault.AssemblyFault.{AssemblyFault}
use Rattle.cmd_asm.specs.declared.fault.AssemblyFault.TheVariants as faults

-- sources that are all texts are assembled
sources_give : (all : Option (List (List ℕ))) (texts given : List (List ℕ))
    → IfSome all (λ all. (texts ≡ all) × (first_other 0 all ≡ None)) → given ≡ texts
    → (answer : Result ProgramValue Fault) → assembled_texts given ≡ answer
    → IfSome all (λ all. program_of_sources all ≡ from_statements answer)
sources_give None texts given read same answer e = tt
sources_give (Some all) texts given (are, none) same answer e =
    ap (program_unless all) none ∙ ap (λ xs. from_statements (assembled_texts xs)) (sym (same ∙ are)) ∙ ap from_statements e

-- to their program
pub program_is : (all : Option (List (List ℕ))) (texts given : List (List ℕ))
    → IfSome all (λ all. (texts ≡ all) × (first_other 0 all ≡ None)) → given ≡ texts
    → (program : ProgramValue) → assembled_texts given ≡ Ok program
    → IfSome all (λ all. program_of_sources all ≡ Ok program)
program_is all texts given read same program e = sources_give all texts given read same (Ok program) e

-- or a statement of theirs is wrong
pub statement_is_wrong : (all : Option (List (List ℕ))) (texts given : List (List ℕ))
    → IfSome all (λ all. (texts ≡ all) × (first_other 0 all ≡ None)) → given ≡ texts
    → (fault : AsmFault) → FailsToRead fault (assembled_texts given) → IsSourceFault (fault_of_assembler fault)
    → IfSome all (λ all. program_of_sources all ≡ Err (fault_of_assembler fault))
statement_is_wrong all texts given read same (assembler.At why) e refused = sources_give all texts given read same (Err why) e
statement_is_wrong all texts given read same assembler.Memory e refused = absurd refused

-- if reading fails, a source isn't a text
pub source_is_other : (all : Option (List (List ℕ))) (fault : AssemblyFault)
    → IfSome all (λ all. IfNotText fault (λ place. first_other 0 all ≡ Some place)) → IsOfReading fault → IsSourceFault fault
    → IfSome all (λ all. program_of_sources all ≡ Err fault)
source_is_other None fault other reading refused = tt
source_is_other (Some all) (faults.Wrong why) other reading refused = absurd reading
source_is_other (Some all) (faults.Read place) other reading refused = absurd refused
source_is_other (Some all) (faults.NotText place) other reading refused = ap (program_unless all) other
source_is_other (Some all) faults.Write other reading refused = absurd refused
source_is_other (Some all) faults.Memory other reading refused = absurd refused
