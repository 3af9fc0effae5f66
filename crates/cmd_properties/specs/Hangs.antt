-- How it is printed whether a run hangs, where that is asked.
use Rattle.std.specs.Prelude.{ℕ, Bool, true, false, List, [], ◌∷◌, ◌++◌, codes, Option, Some, None}
use Rattle.byte_io.specs.declared.status.Status.{Status}
use Rattle.run_hangs.specs.Status.{status_of_hang}
use Rattle.run_hangs.specs.declared.status.RunStatus.{RunStatus}
use Rattle.run_hangs.specs.declared.status.RunStatus.TheVariants as run_status
use Rattle.trace_text.specs.Composites.{member}
use Rattle.trace_text.specs.Scalars.{flag_text}

-- `yes` or `no`
abbrev pub yes_or_no : Bool → List ℕ
yes_or_no true = codes "yes"
yes_or_no false = codes "no"

-- the line that says whether a run hangs, with LF, if that is asked
abbrev pub hang_line : Option Bool → List ℕ
hang_line None = []
hang_line (Some hangs) = codes "hangs " ++ (yes_or_no hangs ++ 10 ∷ [])

-- the member that says so, if that is asked
abbrev pub hang_member : Option Bool → List (List ℕ)
hang_member None = []
hang_member (Some hangs) = member (codes "hangs") (flag_text hangs) ∷ []

-- the status of a run, given whether it hangs and its status without that
abbrev pub status_if : Option Bool → Status → RunStatus
status_if None status = run_status.Of status
status_if (Some hangs) status = status_of_hang hangs status
