-- Runs of files that are objects, under the rule of their kind.
use Rattle.std.specs.Prelude.{◌≡◌, ℕ, ◌≤◌, ◌++◌, List, length, Option, Some, ◌⊎◌}
use Rattle.std.specs.declared.result.Result.TheVariants.{Ok, Err}
use Rattle.hart_reservations.specs.Limit.{most_harts}
use Rattle.image.specs.Image.{ImageValue}
use Rattle.object_library.specs.declared.kind.Kind.{Kind}
use Rattle.object_library.specs.declared.kind.Kind.TheVariants.{Swap, Add, LrSc, AdoptCommit, Rounds}
use Rattle.object_library.specs.declared.verdict.Verdict.TheVariants.{Kept}
use Rattle.object_library.specs.Images.{image_of, IsSame}
use Rattle.outcome.specs.Ends.{verdict_line}
use Rattle.outcome.specs.declared.expect.Exit.{Exit}
use Rattle.outcome.specs.declared.expect.Exit.TheVariants.{May, Must}
use Rattle.program_open.specs.Program.{program_of}
use Rattle.program_open.specs.Answers.{Answer}
use Rattle.program_open.specs.declared.program.ProgramForm.{ProgramForm}
use Rattle.byte_io.specs.declared.status.Status.{Status}
use Rattle.byte_io.specs.declared.status.Status.TheVariants as status

-- the number of harts that an object is for
abbrev pub IsMeantFor : Kind → ℕ → Type 0
IsMeantFor Swap harts = harts ≡ 2
IsMeantFor Add harts = harts ≡ 2
IsMeantFor LrSc harts = harts ≤ most_harts
IsMeantFor AdoptCommit harts = harts ≤ most_harts
IsMeantFor Rounds harts = harts ≤ most_harts

-- a program is the object of the rule's kind, which is for as many harts as there are inputs
pub record IsCertified (form : ProgramForm) (program inputs : List ℕ) (rule : Option Kind) : Type 0 where
  pub image : ImageValue
  pub kind : Kind
  pub reads : program_of form program ≡ Ok image
  pub same : IsSame image (image_of kind)
  pub meant : IsMeantFor kind (length inputs)
  pub ruled : rule ≡ Some kind

-- a status that shows no broken rule: 0, or 3 if each hart must exit and one still runs
abbrev pub IsUnbroken : Exit → Status → Type 0
IsUnbroken May code = code ≡ status.Done
IsUnbroken Must code = (code ≡ status.Done) ⊎ (code ≡ status.Faulted)

-- a text ends with `verdict kept`, and the status shows no broken rule
pub record EndsKept (exit : Exit) (text : List ℕ) (code : Status) : Type 0 where
  pub ends : List ℕ
  pub text_is : text ≡ ends ++ verdict_line (Some Kept)
  pub unbroken : IsUnbroken exit code

-- if a run answers, its text ends with `verdict kept`, and its status shows no broken rule
abbrev pub AnswersKept : Exit → Answer → Type 0
AnswersKept exit (Ok answer) = EndsKept exit answer.0 answer.1
AnswersKept exit (Err why) = Unit {0}
