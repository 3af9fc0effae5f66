-- How many choices a hart of an object needs at most to exit: the bounds of the object crates.
use Rattle.std.specs.Prelude.{◌≡◌, ℕ, ◌+◌, ◌*◌, ◌<◌, ◌≤◌, List, length, Option}
use Rattle.std.specs.declared.result.Result.TheVariants.{Ok, Err}
use Rattle.sched_text.specs.Reading.{choices_read}
use Rattle.byte_io.specs.declared.status.Status.TheVariants as status
use Rattle.machine.specs.declared.choice.Choice.{Choice}
use Rattle.machine.specs.Chosen.{own, refusals}
use Rattle.object_library.specs.declared.kind.Kind.{Kind}
use Rattle.object_library.specs.declared.kind.Kind.TheVariants.{Swap, Add, LrSc, AdoptCommit, Rounds}
use Rattle.program_open.specs.Answers.{Answer}
use Rattle.program_open.specs.declared.program.ProgramForm.{ProgramForm}
use Rattle.cmd_run.specs.Certified.{IsCertified}

-- this bound, for one of n harts, r of whose choices refuse a store-conditional
abbrev pub enough : Kind → ℕ → ℕ → ℕ
enough Swap n r = 15
enough Add n r = 15
enough LrSc n r = 17 + 4 * r
enough AdoptCommit n r = 19 + 14 * n
enough Rounds n r = 82 + 56 * n

-- choices choose each of n harts that often
abbrev pub ChooseEnough : Kind → ℕ → List Choice → Type 0
ChooseEnough kind n choices = (h : ℕ) → h < n → enough kind n (refusals choices h) ≤ own choices h

-- a program is the object of the rule's kind, run by at least one hart, and chosen that often
pub record IsChosenEnough (form : ProgramForm) (program inputs : List ℕ) (rule : Option Kind) (text : List ℕ) : Type 0 where
  pub object : IsCertified form program inputs rule
  pub some : 0 < length inputs
  pub choices : List Choice
  pub reads : choices_read (length inputs) text ≡ Ok choices
  pub often : ChooseEnough object.kind (length inputs) choices

-- a run answers, and its status is 0
abbrev pub EndsWell : Answer → Type 0
EndsWell (Ok answer) = answer.1 ≡ status.Done
EndsWell (Err why) = ⊥
