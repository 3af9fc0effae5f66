-- The runs over a program's schedules up to the first that has failed.
use Rattle.std.specs.Prelude.{◌≡◌, ℕ, suc, List, [], ◌∷◌, ◌++◌, take, drop, length, Option, Some, None, if◌then◌else◌}
use Rattle.std.specs.declared.result.Result.{Result}
use Rattle.std.specs.declared.result.Result.TheVariants.{Ok}
use Rattle.byte_io.specs.declared.status.Status.TheVariants as status
use Rattle.machine.specs.Start.{started}
use Rattle.machine.specs.World.{World}
use Rattle.outcome.specs.declared.expect.Exit.{Exit}
use Rattle.program_open.specs.Opening.{after_program}
use Rattle.program_open.specs.Program.{program_of}
use Rattle.program_open.specs.declared.program.ProgramForm.TheVariants as form
use Rattle.program_open.specs.declared.command_fault.CommandFault.{CommandFault}
use Rattle.campaign_bounded.specs.Walk.{Led}
use Rattle.campaign_runs.specs.Runs.{SeedEnding, seed_ending}
use Rattle.campaign_runs.specs.declared.seed_run.SeedEnd.{SeedEnd}
use Rattle.cmd_campaign.specs.Lines.{has_failed}
use Rattle.cmd_campaign.specs.Status.{ending_status}
use Rattle.cmd_campaign.specs.Until.{first_failing}
use Rattle.cmd_campaign.specs.declared.engine.Finished.{Finished}
use Rattle.cmd_form.specs.declared.form.Form.{Form}
use Rattle.cmd_bounded.specs.Lines.{covered_line, numbered_entry}
use Rattle.cmd_bounded.specs.Runs.{endings_from, every_schedule}
use Rattle.cmd_bounded.specs.declared.bounded.BoundedCampaign.{BoundedCampaign}

-- how many runs are done: up to the first that has failed, or all
abbrev pub runs_until : Exit → List SeedEnding → ℕ
runs_until exit [] = 0
runs_until exit (end ∷ ends) = if has_failed exit end then 1 else suc (runs_until exit ends)

-- the line of a run, if there is one
abbrev pub found_entry : Form → Option SeedEnding → List ℕ
found_entry form None = []
found_entry form (Some end) = numbered_entry form end

-- after so many runs, the status and the number of the one that has failed, if there is one
abbrev pub found_end : Exit → ℕ → Option SeedEnding → Finished
found_end exit count None = record { status = status.Done; first_failure = None; seeds = count }
found_end exit count (Some end) =
    record { status = ending_status exit end.ending; first_failure = Some end.seed; seeds = count }

-- the line of the first run that has failed, what is covered up to it, and its status and number; or
-- that all are covered, and that no run has failed
abbrev pub found_report : BoundedCampaign → ℕ → Option SeedEnding → List Led → List ℕ × Finished
found_report campaign count found left = (
  found_entry campaign.form found ++ covered_line campaign count left,
  found_end campaign.expect.exit count found,
)

-- that of the runs from a program's start over a range of the schedules
unfoldable pub until_range : BoundedCampaign → World → List ℕ → List Led → List ℕ × Finished
until_range campaign start inputs from =
    let ends = endings_from campaign start inputs campaign.first (take campaign.count from) in
    let count = runs_until campaign.expect.exit ends in
    found_report campaign count (first_failing campaign.expect.exit ends) (drop count from)

-- the answer over an ELF file: the number of inputs is checked before the first run
unfoldable pub bounded_until : BoundedCampaign → List ℕ → List ℕ → Result (List ℕ × Finished) CommandFault
bounded_until campaign inputs bytes = after_program (length inputs)
    (λ image. Ok (until_range campaign (started image inputs) inputs (drop campaign.first (every_schedule campaign image inputs))))
    (program_of form.Elf bytes)

-- the code's run, if there is one
abbrev pub found_ending : {Z : Type 0} → Option (SeedEnd Z) → Option SeedEnding
found_ending None = None
found_ending (Some end) = Some (seed_ending end)

-- so many of the schedules that were left are run; the last of them is the first whose run has
-- failed, or none has; the others are left
pub record FindsFirst (campaign : BoundedCampaign) (start : World) (inputs : List ℕ) (old : List Led) (count : ℕ) (found : Option SeedEnding) (new : List Led) : Type 0 where
  pub number : count ≡ runs_until campaign.expect.exit
      (endings_from campaign start inputs campaign.first (take campaign.count old))
  pub first : found ≡ first_failing campaign.expect.exit
      (endings_from campaign start inputs campaign.first (take campaign.count old))
  pub left : new ≡ drop count old
