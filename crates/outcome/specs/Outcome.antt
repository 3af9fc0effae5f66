-- How a run ends.
use Rattle.std.specs.Prelude.{ℕ, ◌+◌, nat_lt, Bool, List, [], ◌∷◌, Option}
use Rattle.hart_step.specs.Hart.{HartValue}
use Rattle.hart_step.specs.declared.hart.HartState.{HartState}
use Rattle.hart_step.specs.declared.hart.HartState.TheVariants.{Running, Exited, Faulted}
use Rattle.object_library.specs.declared.verdict.Verdict.{Verdict}
use Rattle.outcome.specs.declared.run_outcome.End.{End}
use Rattle.outcome.specs.declared.run_outcome.End.TheVariants as end
use Rattle.outcome.specs.declared.run_outcome.Outcome.{Outcome}

-- 1 if a hart in this state ended in this way, else 0
abbrev pub counts : End → HartState → ℕ
counts end.Exited (Exited status) = 1
counts end.Exited Running = 0
counts end.Exited (Faulted cause) = 0
counts end.Faulted (Faulted cause) = 1
counts end.Faulted Running = 0
counts end.Faulted (Exited status) = 0
counts end.Running Running = 1
counts end.Running (Exited status) = 0
counts end.Running (Faulted cause) = 0

-- number of harts that ended in this way
abbrev pub counted : End → List HartValue → ℕ
counted wanted [] = 0
counted wanted (hart ∷ harts) = counts wanted hart.state + counted wanted harts

-- whether some hart still runs
abbrev pub some_run : List HartValue → Bool
some_run harts = nat_lt 0 (counted end.Running harts)

-- the outcome of a run that left these harts, with the verdict on it
abbrev pub outcome_of : Option Verdict → List HartValue → Outcome
outcome_of verdict harts = record {
  exited = counted end.Exited harts;
  faulted = counted end.Faulted harts;
  running = counted end.Running harts;
  verdict = verdict;
}
