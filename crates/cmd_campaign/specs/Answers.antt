-- The answer of a campaign over an ELF file.
use Rattle.std.specs.Prelude.{ℕ, List, length, Option, None}
use Rattle.std.specs.declared.result.Result.{Result}
use Rattle.std.specs.declared.result.Result.TheVariants.{Ok, Err}
use Rattle.image.specs.Image.{ImageValue}
use Rattle.byte_io.specs.declared.status.Status.{Status}
use Rattle.program_open.specs.Answers.{Answer}
use Rattle.program_open.specs.Opening.{after_program}
use Rattle.program_open.specs.Program.{program_of}
use Rattle.program_open.specs.declared.program.ProgramForm.TheVariants as form
use Rattle.program_open.specs.declared.command_fault.CommandFault.{CommandFault}
use Rattle.campaign_runs.specs.Runs.{SeedEnding, all_endings}
use Rattle.campaign_runs.specs.declared.campaign.Campaign.{Campaign}
use Rattle.cmd_campaign.specs.Status.{first_failure, campaign_status}
use Rattle.cmd_campaign.specs.Summary.{report_text}

-- the report of a campaign's runs, and their status
abbrev pub reported : Campaign → List SeedEnding → List ℕ × Status
reported campaign ends = (
  report_text campaign.form campaign.report campaign.expect.exit ends,
  campaign_status campaign.expect.exit ends,
)

-- the answer after the program is read: the number of inputs is checked before the first run
abbrev pub after_image : Campaign → List ℕ → Result ImageValue CommandFault → Answer
after_image campaign inputs read = after_program (length inputs)
    (λ image. Ok (reported campaign (all_endings campaign image inputs))) read

-- the answer of a campaign over an ELF file
unfoldable pub campaign_answer : Campaign → List ℕ → List ℕ → Answer
campaign_answer campaign inputs bytes = after_image campaign inputs (program_of form.Elf bytes)

-- the first seed whose run has failed, once the program is read
abbrev pub first_failure_after : Campaign → List ℕ → Result ImageValue CommandFault → Option ℕ
first_failure_after campaign inputs (Ok image) = first_failure campaign.expect.exit (all_endings campaign image inputs)
first_failure_after campaign inputs (Err why) = None

-- the same over an ELF file
unfoldable pub campaign_failure : Campaign → List ℕ → List ℕ → Option ℕ
campaign_failure campaign inputs bytes = first_failure_after campaign inputs (program_of form.Elf bytes)
