-- The choices of one schedule.
use Rattle.std.specs.Prelude.{ℕ, List, [], ◌∷◌, drop, length, Option, Some, None, String, string_bytes}
use Rattle.std.specs.declared.result.Result.{Result}
use Rattle.std.specs.declared.result.Result.TheVariants.{Ok}
use Rattle.sched_text.specs.Printing.{runs_text}
use Rattle.program_open.specs.Opening.{after_program}
use Rattle.program_open.specs.Program.{program_of}
use Rattle.program_open.specs.declared.program.ProgramForm.TheVariants as form
use Rattle.program_open.specs.declared.command_fault.CommandFault.{CommandFault}
use Rattle.campaign_bounded.specs.Walk.{Led}
use Rattle.cmd_bounded.specs.Runs.{every_schedule, fair_of}
use Rattle.cmd_bounded.specs.declared.bounded.BoundedCampaign.{BoundedCampaign}

-- the bytes of a text, if there is one
abbrev pub bytes_if_given : {Z : Type 0} → Option (String Z) → Option (List ℕ)
bytes_if_given None = None
bytes_if_given (Some text) = Some (string_bytes text)

-- the choices of the first of these schedules, with its fair tail, as a choice text
abbrev pub first_choices : BoundedCampaign → List ℕ → List Led → Option (List ℕ)
first_choices campaign inputs [] = None
first_choices campaign inputs (led ∷ more) = Some (runs_text (fair_of campaign inputs led).choices)

-- those of a campaign's first schedule, over an ELF file: the number of inputs is checked first
unfoldable pub choices_of_bounded : BoundedCampaign → List ℕ → List ℕ → Result (Option (List ℕ)) CommandFault
choices_of_bounded campaign inputs bytes = after_program (length inputs)
    (λ image. Ok (first_choices campaign inputs (drop campaign.first (every_schedule campaign image inputs))))
    (program_of form.Elf bytes)
