-- Results with the fault that counts.
use Rattle.std.specs.Prelude.{◌≡◌, Result, Ok, Err}
use Rattle.asm_statement.specs.declared.fault.Fault.{Fault}
use Rattle.asm_statement.specs.declared.fault.AsmFault.{AsmFault}
use Rattle.asm_statement.specs.declared.fault.AsmFault.TheVariants as faults

-- a fault is the expected result; any result may be out of memory instead
abbrev pub FailsToRead : {Y : Type 0} → AsmFault → Result Y Fault → Type 0
FailsToRead (faults.At fault) expected = expected ≡ Err fault
FailsToRead faults.Memory expected = Unit {0}

-- a result, as a view gives it, is the expected one, or out of memory
abbrev pub GivesStatements : {X Y : Type 0} → (X → Y) → Result X AsmFault → Result Y Fault → Type 0
GivesStatements view (Ok value) expected = expected ≡ Ok (view value)
GivesStatements view (Err fault) expected = FailsToRead fault expected

-- a step, and then the next one on its value
infixl 10 ◌>>=◌
abbrev pub ◌>>=◌ : {E X Y : Type 0} → Result X E → (X → Result Y E) → Result Y E
(Ok value) >>= next = next value
(Err fault) >>= next = Err fault
