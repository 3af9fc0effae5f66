-- The answer of a run: the printed world after the choices and the verdict, or the first fault.
use Rattle.std.specs.Prelude.{ℕ, List, length, Option}
use Rattle.std.specs.declared.result.Result.TheVariants.{Ok, Err}
use Rattle.image.specs.Image.{ImageValue}
use Rattle.machine.specs.World.{World, run}
use Rattle.machine.specs.Start.{started}
use Rattle.machine.specs.declared.choice.Choice.{Choice}
use Rattle.hart_step.specs.Hart.{HartValue}
use Rattle.object_library.specs.declared.verdict.Verdict.{Verdict}
use Rattle.outcome.specs.Ends.{lines_of_ends, verdict_on}
use Rattle.outcome.specs.Expect.{status_of}
use Rattle.outcome.specs.Outcome.{outcome_of}
use Rattle.outcome.specs.declared.expect.Exit.{Exit}
use Rattle.outcome.specs.declared.expect.Expect.{Expect}
use Rattle.program_open.specs.Answers.{Answer}
use Rattle.program_open.specs.Opening.{Opened, opening}
use Rattle.program_open.specs.declared.program.ProgramForm.{ProgramForm}
use Rattle.byte_io.specs.declared.status.Status.{Status}

-- the printed harts with a verdict, and the status of their run
abbrev pub shown_with : Exit → Option Verdict → List HartValue → List ℕ × Status
shown_with exit verdict harts = (lines_of_ends verdict harts, status_of exit (outcome_of verdict harts))

-- the printed world after a list of choices, with the verdict on it
abbrev pub shown : Expect → List ℕ → List Choice → World → List ℕ × Status
shown expect inputs choices w = shown_with expect.exit (verdict_on expect.rule inputs choices w.harts) w.harts

-- the world after a list of choices, from an image's start
abbrev pub world_after : ImageValue → List ℕ → List Choice → World
world_after image inputs choices = run (started image inputs) choices

-- the answer for an opened run
abbrev pub run_after : Expect → List ℕ → Opened → Answer
run_after expect inputs (Ok opened) = Ok (shown expect inputs opened.1 (world_after opened.0 inputs opened.1))
run_after expect inputs (Err why) = Err why

-- the answer for a program and a choice text, by what is expected of the run
unfoldable pub run_answer : ProgramForm → List ℕ → Expect → List ℕ → List ℕ → Answer
run_answer form inputs expect program text = run_after expect inputs (opening form (length inputs) program text)
