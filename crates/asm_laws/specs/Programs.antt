-- The program of texts, and the fault of texts that have none.
use Rattle.std.specs.Prelude.{ℕ, List, ◌⊎◌}
use Rattle.asm_statement.specs.Statement.{StatementValue}
use Rattle.asm_statement.specs.declared.fault.Fault.{Fault}
use Rattle.asm_statement.specs.declared.fault.AsmFault.{AsmFault}
use Rattle.asm_statement.specs.declared.fault.AsmFault.TheVariants as faults
use Rattle.asm_assemble.specs.Placed.{Placed}
use Rattle.asm_assemble.specs.Program.{ProgramValue}
use Rattle.asm_laws.specs.Faults.{HasFirstFault}
use Rattle.asm_laws.specs.Reads.{TextsSay, TextsFail}

-- a program of texts: it has the statements that they say where one symbol table puts them
pub record IsProgramOf (texts : List (List ℕ)) (p : ProgramValue) : Type 0 where
  pub statements : List StatementValue
  pub said : TextsSay 0 texts statements
  pub placed : Placed statements p

-- texts with a reported fault have no program; out of memory says nothing about them
abbrev pub HasNoProgram : List (List ℕ) → AsmFault → Type 0
HasNoProgram texts (faults.At fault) = (p : ProgramValue) → IsProgramOf texts p → ⊥
HasNoProgram texts faults.Memory = Unit {0}

-- the fault of texts: that of their first wrong part, or that of the statements that they say
abbrev pub IsFaultOf : List (List ℕ) → Fault → Type 0
IsFaultOf texts fault =
    TextsFail 0 texts fault
    ⊎ ((ss : List StatementValue) × TextsSay 0 texts ss × HasFirstFault ss fault)

-- a reported fault is that of the texts; out of memory says nothing about them
abbrev pub HasFault : List (List ℕ) → AsmFault → Type 0
HasFault texts (faults.At fault) = IsFaultOf texts fault
HasFault texts faults.Memory = Unit {0}
