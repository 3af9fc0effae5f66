-- The answer over an ELF file.
use Rattle.std.specs.Prelude.{ℕ, List, ◌++◌, take, drop, length}
use Rattle.std.specs.declared.result.Result.{Result}
use Rattle.std.specs.declared.result.Result.TheVariants.{Ok}
use Rattle.machine.specs.Start.{started}
use Rattle.machine.specs.World.{World}
use Rattle.program_open.specs.Opening.{after_program}
use Rattle.program_open.specs.Program.{program_of}
use Rattle.program_open.specs.declared.program.ProgramForm.TheVariants as form
use Rattle.program_open.specs.declared.command_fault.CommandFault.{CommandFault}
use Rattle.campaign_bounded.specs.Walk.{Led}
use Rattle.campaign_runs.specs.Runs.{SeedEnding}
use Rattle.campaign_runs.specs.Tally.{tally_of}
use Rattle.cmd_campaign.specs.Status.{finished_of}
use Rattle.cmd_campaign.specs.Summary.{counted_of}
use Rattle.cmd_campaign.specs.declared.engine.Finished.{Finished}
use Rattle.cmd_bounded.specs.Lines.{covered_line, schedule_parts, schedules_entries}
use Rattle.cmd_bounded.specs.Runs.{endings_from, every_schedule}
use Rattle.cmd_bounded.specs.declared.bounded.BoundedCampaign.{BoundedCampaign}

-- the report of runs and what they cover, and their end
abbrev pub reported_runs : BoundedCampaign → List SeedEnding → List Led → List ℕ × Finished
reported_runs campaign ends left = (
  (schedule_parts campaign.form campaign.report campaign.expect.exit ends
      ++ schedules_entries campaign.form (tally_of (counted_of campaign.report ends)))
      ++ covered_line campaign (length ends) left,
  finished_of campaign.expect.exit ends,
)

-- that of the runs from a program's start over a range of the schedules from the first one on
unfoldable pub reported_range : BoundedCampaign → World → List ℕ → List Led → List ℕ × Finished
reported_range campaign start inputs from = reported_runs campaign
    (endings_from campaign start inputs campaign.first (take campaign.count from))
    (drop campaign.count from)

-- the answer over an ELF file: the number of inputs is checked before the first run
unfoldable pub bounded_answer : BoundedCampaign → List ℕ → List ℕ → Result (List ℕ × Finished) CommandFault
bounded_answer campaign inputs bytes = after_program (length inputs)
    (λ image. Ok (reported_range campaign (started image inputs) inputs (drop campaign.first (every_schedule campaign image inputs))))
    (program_of form.Elf bytes)
