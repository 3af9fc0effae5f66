-- The choices that a seed draws in a run of a program, as text.
use Rattle.std.specs.Prelude.{◌≡◌, ℕ, List, length}
use Rattle.std.specs.declared.result.Result.TheVariants.{Ok}
use Rattle.image.specs.Image.{ImageValue}
use Rattle.machine.specs.Start.{started}
use Rattle.machine.specs.declared.choice.Choice.{Choice}
use Rattle.sched_text.specs.Printing.{choices_text}
use Rattle.sched_text.specs.Reading.{choices_read}
use Rattle.byte_io.specs.declared.status.Status.TheVariants as status
use Rattle.sched_draw.specs.Schedules.{drawn_choices}
use Rattle.campaign_runs.specs.Runs.{ending_after, ending_from}
use Rattle.campaign_runs.specs.declared.campaign.Campaign.{Campaign}
use Rattle.program_open.specs.Answers.{Answer}
use Rattle.program_open.specs.Opening.{after_program}
use Rattle.program_open.specs.Program.{program_of}
use Rattle.program_open.specs.declared.program.ProgramForm.TheVariants as form
use Rattle.cmd_schedule.specs.declared.plan.SeedPlan.{SeedPlan}

-- the choices of a plan in a run of an image
abbrev pub seed_list : SeedPlan → List ℕ → ImageValue → List Choice
seed_list plan inputs image =
    drawn_choices plan.draw (started image inputs) (length inputs) plan.steps plan.seed

-- the answer for an ELF file: the choice text of the plan's choices
unfoldable pub choices_answer : SeedPlan → List ℕ → List ℕ → Answer
choices_answer plan inputs bytes = after_program (length inputs)
    (λ image. Ok (choices_text (seed_list plan inputs image), status.Done)) (program_of form.Elf bytes)

-- a text is read as choices whose run ends as a campaign reports for a seed
pub record EndsAsTold (campaign : Campaign) (image : ImageValue) (inputs : List ℕ) (seed : ℕ) (text : List ℕ) : Type 0 where
  pub choices : List Choice
  pub read : choices_read (length inputs) text ≡ Ok choices
  pub ends : ending_after (started image inputs) campaign inputs choices ≡ (ending_from (started image inputs) campaign inputs seed).ending
