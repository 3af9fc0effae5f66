-- The answer of a command, and what a sink has of it.
use Rattle.std.specs.Prelude.{◌≡◌, ℕ, List, take, Option, String, string_bytes}
use Rattle.std.specs.Io.KnownBytes.{Appends}
use Rattle.std.specs.declared.result.Result.{Result}
use Rattle.std.specs.declared.result.Result.TheVariants.{Ok, Err}
use Rattle.byte_io.specs.declared.status.Status.{Status}
use Rattle.program_open.specs.declared.command_fault.CommandFault.{CommandFault}

-- the text that is written and the status, or the fault
abbrev pub Answer : Type 0
Answer = Result (List ℕ × Status) CommandFault

-- the value of an answer that the code holds
abbrev pub answer_of : {A : Type 0} → Result (String A × Status) CommandFault → Answer
answer_of (Ok answer) = Ok (string_bytes answer.0, answer.1)
answer_of (Err why) = Err why

-- the answer's text was appended, and this is its status
abbrev pub Prints : Answer → Status → Option (List ℕ) → Option (List ℕ) → Type 0
Prints (Ok answer) status old new = (answer.1 ≡ status) × Appends old new answer.0
Prints (Err why) status old new = ⊥

-- a beginning of a text was appended
abbrev pub Begins : List ℕ → Option (List ℕ) → Option (List ℕ) → Type 0
Begins text old new = (n : ℕ) × Appends old new (take n text)

-- a beginning of the answer's text was appended
abbrev pub BeginsToPrint : Answer → Option (List ℕ) → Option (List ℕ) → Type 0
BeginsToPrint (Ok answer) old new = Begins answer.0 old new
BeginsToPrint (Err why) old new = ⊥
