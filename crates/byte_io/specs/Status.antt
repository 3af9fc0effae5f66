-- Exit statuses.
use Rattle.std.specs.Prelude.{ℕ}
use Rattle.byte_io.specs.declared.status.Status.{Status}
use Rattle.byte_io.specs.declared.status.Status.TheVariants.{Done, Refused, BadLine, Faulted, Broken, NoMemory, Undecided}

-- the exit status as a number
abbrev pub code_of : Status → ℕ
code_of Done = 0
code_of Refused = 1
code_of BadLine = 2
code_of Faulted = 3
code_of Broken = 4
code_of NoMemory = 5
code_of Undecided = 6
