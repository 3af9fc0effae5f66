-- The answer of `shrink`: the text of a minimal list of choices that fails as the given one.
use Rattle.std.specs.Prelude.{◌≡◌, ℕ, List, length, Option, Some, None}
use Rattle.std.specs.declared.result.Result.TheVariants.{Ok, Err}
use Rattle.image.specs.Image.{ImageValue}
use Rattle.machine.specs.declared.choice.Choice.{Choice}
use Rattle.sched_text.specs.Printing.{runs_text}
use Rattle.sched_text.specs.Reading.{choices_read}
use Rattle.cmd_shrink.specs.Less.{IsLessOfEach}
use Rattle.cmd_shrink.specs.Minimal.{IsMinimal}
use Rattle.cmd_shrink.specs.Switches.{HasFewSwitches}
use Rattle.program_open.specs.Opening.{Opened}
use Rattle.program_open.specs.declared.command_fault.CommandFault.{CommandFault}
use Rattle.program_open.specs.declared.command_fault.CommandFault.TheVariants as fault
use Rattle.outcome.specs.declared.expect.Expect.{Expect}
use Rattle.property_judge.specs.declared.property.Property.{Property}
use Rattle.cmd_shrink.specs.Failure.{failure_after, RunFailsSo}
use Rattle.cmd_shrink.specs.declared.failure.Failure.{Failure}

-- a text is that of a list of choices in which each hart has its given ones with choices left out
-- and marks removed, whose run fails as the given one's does; each choice and each mark is needed
-- for that, and no exchange of neighbouring runs, by which there are fewer switches, fails so
pub record IsShrunk (expect : Expect) (properties : List Property) (image : ImageValue) (inputs : List ℕ) (given : List Choice) (text : List ℕ) : Type 0 where
  pub choices : List Choice
  pub how : Failure
  pub given_fails : failure_after expect properties image inputs given ≡ Some how
  pub less : IsLessOfEach choices given
  pub fails : RunFailsSo how image inputs choices
  pub minimal : IsMinimal (RunFailsSo how image inputs) choices
  pub few : HasFewSwitches (RunFailsSo how image inputs) choices
  pub printed : text ≡ runs_text choices
  pub read : choices_read (length inputs) text ≡ Ok choices

-- a text is one for an opened run
abbrev pub Shrinks : Expect → List Property → List ℕ → Opened → List ℕ → Type 0
Shrinks expect properties inputs (Ok opened) text = IsShrunk expect properties opened.0 inputs opened.1 text
Shrinks expect properties inputs (Err why) text = ⊥

-- why there is no text: the run doesn't fail
abbrev pub refusal_of : Option Failure → Option CommandFault
refusal_of None = Some fault.NothingFails
refusal_of (Some how) = None

-- why there is no text for an opened run: its fault, or that nothing fails
abbrev pub refusal : Expect → List Property → List ℕ → Opened → Option CommandFault
refusal expect properties inputs (Ok opened) = refusal_of (failure_after expect properties opened.0 inputs opened.1)
refusal expect properties inputs (Err why) = Some why
