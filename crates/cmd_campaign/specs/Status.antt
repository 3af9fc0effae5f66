-- The status of a campaign, and the first of its runs that has failed.
use Rattle.std.specs.Prelude.{ℕ, Bool, List, [], ◌∷◌, length, Option, Some, None, is_some, if◌then◌else◌}
use Rattle.std.specs.List.{list_any}
use Rattle.byte_io.specs.declared.status.Status.{Status}
use Rattle.outcome.specs.Expect.{status_by}
use Rattle.outcome.specs.declared.expect.Exit.{Exit}
use Rattle.run_hangs.specs.Status.{status_of_hang}
use Rattle.run_hangs.specs.declared.status.RunStatus.{RunStatus}
use Rattle.campaign_runs.specs.Ending.{EndingValue, ending_breaks, ending_faults}
use Rattle.campaign_runs.specs.Runs.{SeedEnding}
use Rattle.cmd_campaign.specs.Lines.{has_failed}
use Rattle.cmd_campaign.specs.declared.engine.Finished.{Finished}

-- whether a rule or a property is broken in some run
abbrev pub any_breaks : List SeedEnding → Bool
any_breaks ends = list_any (λ end. ending_breaks end.ending) ends

-- the first seed whose run has failed, if there is one
abbrev pub first_failure : Exit → List SeedEnding → Option ℕ
first_failure exit [] = None
first_failure exit (end ∷ ends) = if has_failed exit end then Some end.seed else first_failure exit ends

-- the first one, or else the second
abbrev pub first_or : Option ℕ → Option ℕ → Option ℕ
first_or None other = other
first_or (Some seed) other = Some seed

-- whether some run has failed otherwise than by a hang
abbrev pub any_faults : Exit → List SeedEnding → Bool
any_faults exit ends = list_any (λ end. ending_faults exit end.ending) ends

-- the status of a run but for a hang
abbrev pub ending_status : Exit → EndingValue → Status
ending_status exit ending = status_by (ending_breaks ending) (ending_faults exit ending)

-- the status of a campaign's runs but for hangs: whether a rule or a property is broken in one, and
-- whether one has failed otherwise than by a hang
abbrev pub campaign_status : Exit → List SeedEnding → Status
campaign_status exit ends = status_by (any_breaks ends) (any_faults exit ends)

-- the end of a campaign of these runs
abbrev pub campaign_end : Exit → List SeedEnding → Finished
campaign_end exit ends = record {
  status = campaign_status exit ends;
  first_failure = first_failure exit ends;
  seeds = length ends;
}

-- the end of runs of which it isn't decided whether they hang
abbrev pub finished_of : Exit → List SeedEnding → Finished
finished_of exit ends = record {
  status = status_by (any_breaks ends) (is_some (first_failure exit ends));
  first_failure = first_failure exit ends;
  seeds = length ends;
}

-- how a command ends after these runs: by a hang, if runs have failed by hangs alone
abbrev pub run_status : Finished → RunStatus
run_status finished = status_of_hang (is_some finished.first_failure) finished.status
