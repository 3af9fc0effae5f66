-- How a command ends that decides whether runs hang.
use Rattle.std.specs.Prelude.{ℕ, Bool, true, false}
use Rattle.byte_io.specs.Status.{code_of}
use Rattle.byte_io.specs.declared.status.Status.{Status}
use Rattle.byte_io.specs.declared.status.Status.TheVariants.{Done, Refused, BadLine, Faulted, Broken, NoMemory, Undecided}
use Rattle.run_hangs.specs.declared.status.RunStatus.{RunStatus}
use Rattle.run_hangs.specs.declared.status.RunStatus.TheVariants as run_status

-- the exit status as a number
abbrev pub run_code : RunStatus → ℕ
run_code (run_status.Of status) = code_of status
run_code run_status.Hangs = 7

-- a run that hangs has failed so only if it hasn't failed otherwise: a broken rule or property comes
-- first, then a fault, then a hang
abbrev pub status_of_hang : Bool → Status → RunStatus
status_of_hang true Done = run_status.Hangs
status_of_hang true Refused = run_status.Of Refused
status_of_hang true BadLine = run_status.Of BadLine
status_of_hang true Faulted = run_status.Of Faulted
status_of_hang true Broken = run_status.Of Broken
status_of_hang true NoMemory = run_status.Of NoMemory
status_of_hang true Undecided = run_status.Of Undecided
status_of_hang false status = run_status.Of status
