-- A campaign up to the first of its runs that has failed.
use Rattle.std.specs.Prelude.{◌≡◌, ℕ, true, false, List, [], ◌∷◌, ◌++◌, length, Option, Some, None, if◌then◌else◌}
use Rattle.std.specs.List.{All}
use Rattle.std.specs.declared.result.Result.{Result}
use Rattle.std.specs.declared.result.Result.TheVariants.{Ok}
use Rattle.byte_io.specs.declared.status.Status.TheVariants as status
use Rattle.cmd_form.specs.declared.form.Form.{Form}
use Rattle.outcome.specs.declared.expect.Exit.{Exit}
use Rattle.program_open.specs.Opening.{after_program}
use Rattle.program_open.specs.Program.{program_of}
use Rattle.program_open.specs.declared.program.ProgramForm.TheVariants as form
use Rattle.program_open.specs.declared.command_fault.CommandFault.{CommandFault}
use Rattle.campaign_runs.specs.Runs.{SeedEnding, all_endings}
use Rattle.campaign_runs.specs.declared.campaign.Campaign.{Campaign}
use Rattle.cmd_campaign.specs.Lines.{end_entry, has_failed}
use Rattle.cmd_campaign.specs.Status.{ending_status}
use Rattle.cmd_campaign.specs.declared.engine.Finished.{Finished}

-- the first run that has failed, if there is one
abbrev pub first_failing : Exit → List SeedEnding → Option SeedEnding
first_failing exit [] = None
first_failing exit (end ∷ ends) = if has_failed exit end then Some end else first_failing exit ends

-- what is written of it: its line, or nothing; and the end of the campaign, of which so many seeds
-- were run: its status and seed, or 0
abbrev pub ended_at : Form → Exit → ℕ → Option SeedEnding → List ℕ × Finished
ended_at form exit seeds None = ([], record { status = status.Done; first_failure = None; seeds = seeds })
ended_at form exit seeds (Some end) =
    (end_entry form end, record { status = ending_status exit end.ending; first_failure = Some end.seed; seeds = seeds })

-- the answer over an ELF file: the number of inputs is checked before the first run
unfoldable pub until_answer : Campaign → List ℕ → List ℕ → Result (List ℕ × Finished) CommandFault
until_answer campaign inputs bytes = after_program (length inputs)
    (λ image. Ok (ended_at campaign.form campaign.expect.exit campaign.count
    (first_failing campaign.expect.exit (all_endings campaign image inputs))))
    (program_of form.Elf bytes)

-- no run has failed
abbrev pub NoneFailed : Exit → List SeedEnding → Type 0
NoneFailed exit ends = All (λ run. has_failed exit run ≡ false) ends

-- a run has failed, and none before it
pub record IsFirstFailing (exit : Exit) (ends : List SeedEnding) (end : SeedEnding) : Type 0 where
  pub before : List SeedEnding
  pub after : List SeedEnding
  pub order : ends ≡ before ++ (end ∷ after)
  pub succeeded : NoneFailed exit before
  pub failed : has_failed exit end ≡ true
