-- What is expected of a run, and its exit status.
use Rattle.std.specs.Prelude.{ℕ, nat_lt, Bool, true, false, ◌||◌, List, Option, Some, None, if◌then◌else◌}
use Rattle.hart_step.specs.Hart.{HartValue}
use Rattle.machine.specs.declared.choice.Choice.{Choice}
use Rattle.object_library.specs.declared.kind.Kind.{Kind}
use Rattle.object_library.specs.declared.verdict.Verdict.{Verdict}
use Rattle.object_library.specs.declared.verdict.Verdict.TheVariants.{Kept, Broken}
use Rattle.byte_io.specs.declared.status.Status.{Status}
use Rattle.byte_io.specs.declared.status.Status.TheVariants as status
use Rattle.outcome.specs.Ends.{verdict_on}
use Rattle.outcome.specs.Outcome.{outcome_of}
use Rattle.outcome.specs.declared.expect.Exit.{Exit}
use Rattle.outcome.specs.declared.expect.Exit.TheVariants.{May, Must}
use Rattle.outcome.specs.declared.run_outcome.Outcome.{Outcome}

-- how a run ended, judged by the rule, if there is one
abbrev pub judged : Option Kind → List ℕ → List Choice → List HartValue → Outcome
judged rule inputs choices harts = outcome_of (verdict_on rule inputs choices harts) harts

-- whether the rule is broken, if there is one
abbrev pub breaks : Option Verdict → Bool
breaks None = false
breaks (Some Kept) = false
breaks (Some Broken) = true

-- whether there is no rule, and harts have faulted
abbrev pub has_faults : Option Verdict → ℕ → Bool
has_faults None faulted = nat_lt 0 faulted
has_faults (Some verdict) faulted = false

-- whether each hart must exit, and some still run
abbrev pub hangs : Exit → Bool → Bool
hangs May running = false
hangs Must running = running

-- whether a run has failed
abbrev pub fails : Exit → Outcome → Bool
fails exit outcome =
    breaks outcome.verdict || (has_faults outcome.verdict outcome.faulted || hangs exit (nat_lt 0 outcome.running))

-- the status of runs, given whether a rule is broken in one, and whether one has failed
abbrev pub status_by : Bool → Bool → Status
status_by broken failed = if broken then status.Broken else (if failed then status.Faulted else status.Done)

-- the status of a run
abbrev pub status_of : Exit → Outcome → Status
status_of exit outcome = status_by (breaks outcome.verdict) (fails exit outcome)
