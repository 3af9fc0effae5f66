-- What `explore` answers.
use Rattle.std.specs.Prelude.{◌≡◌, ℕ, ◌<◌, ◌++◌, List, codes, length, Option, Some, None}
use Rattle.std.specs.Fmt.{decimal}
use Rattle.std.specs.declared.result.Result.{Result}
use Rattle.std.specs.declared.result.Result.TheVariants.{Ok, Err}
use Rattle.image.specs.Image.{ImageValue}
use Rattle.machine.specs.Start.{started}
use Rattle.machine.specs.World.{World}
use Rattle.object_library.specs.declared.kind.Kind.{Kind}
use Rattle.property_judge.specs.Broken.{first_broken}
use Rattle.property_judge.specs.declared.property.Property.TheVariants as property
use Rattle.sched_text.specs.Printing.{runs_text}
use Rattle.sched_text.specs.Reading.{choices_read}
use Rattle.byte_io.specs.declared.status.Status.{Status}
use Rattle.byte_io.specs.declared.status.Status.TheVariants as status
use Rattle.program_open.specs.declared.command_fault.CommandFault.{CommandFault}
use Rattle.program_open.specs.declared.command_fault.CommandFault.TheVariants as fault
use Rattle.outcome.specs.declared.expect.Exit.{Exit}
use Rattle.outcome.specs.declared.expect.Exit.TheVariants.{May, Must}
use Rattle.explore_bounds.specs.declared.bound.Bound.{Bound}
use Rattle.explore_space.specs.declared.section.Section.{Section}
use Rattle.explore_space.specs.Bounds.{TellsBounds}
use Rattle.explore_space.specs.Ends.{EndValue, ends_in}
use Rattle.explore_space.specs.Every.{CountsPlaces, HoldsOfEvery, IsListOf, TellsEnds, TellsExits, meant_choices}
use Rattle.explore_space.specs.declared.exploring.Answer.{Answer}
use Rattle.explore_space.specs.declared.exploring.Answer.TheVariants.{Holds, Fails, Hangs, Undecided}
use Rattle.cmd_explore.specs.BoundLines.{bound_lines}
use Rattle.cmd_explore.specs.EndLines.{IsEndsText}
use Rattle.cmd_explore.specs.Objects.{held_object, list_object}
use Rattle.cmd_form.specs.declared.form.Form.{Form}
use Rattle.cmd_form.specs.declared.form.Form.TheVariants.{Text, Json}
use Rattle.machine.specs.declared.choice.Choice.{Choice}
use Rattle.explore_space.specs.declared.meant.ScRefusals.{ScRefusals}
use Rattle.explore_space.specs.declared.question.Always.{Always}
use Rattle.explore_space.specs.declared.question.Question.{Question}
use Rattle.cmd_explore.specs.declared.finding.Finding.TheVariants as finding
use Rattle.cmd_explore.specs.declared.finding.Explored.{Explored}

-- the first line of a program that fails in no schedule, nor hangs in one if each hart must exit
abbrev pub worlds_line : Exit → ℕ → List ℕ
worlds_line May worlds = codes "every schedule: " ++ (decimal worlds ++ codes " worlds\n")
worlds_line Must worlds =
    codes "every schedule: " ++ (decimal worlds ++ codes " worlds, each with a way out\n")

-- the number of worlds of a program that fails in no schedule, and behind it the lines of its ends,
-- and those of its harts' bounds; or an object
abbrev pub TellsHeld : Form → Exit → ℕ → List EndValue → List Bound → List ℕ → Type 0
TellsHeld Text exit worlds ends bounds text =
    (lines : List ℕ) × IsEndsText ends lines × (text ≡ (worlds_line exit worlds ++ lines) ++ bound_lines 0 bounds)
TellsHeld Json exit worlds ends bounds text = text ≡ held_object exit worlds ends bounds

-- a list that fails or hangs, as the answer's word says: its choice text, or an object
abbrev pub list_shown : Form → List ℕ → ℕ → List Choice → List ℕ
list_shown Text answer turns choices = runs_text choices
list_shown Json answer turns choices = list_object answer turns choices

-- after how many choices of a list a word first isn't what it must be, 0 at the start, if that is
-- asked; `None` if it always is
abbrev pub word_broken : Option Always → World → List Choice → Option ℕ
word_broken None w choices = None
word_broken (Some always) w choices =
    first_broken (property.Always always.word always.comparison always.number) w choices

-- after how many choices of a list two harts, or more, first stand in a section at once, 0 at the
-- start, if that is asked; `None` if they never do
abbrev pub section_broken : Option Section → World → List Choice → Option ℕ
section_broken None w choices = None
section_broken (Some section) w choices = first_broken (property.NeverBoth section.from section.to) w choices

-- a list breaks neither: the word is what it must be at the start and after each choice, and then no
-- two harts stand in the section
pub record KeepsBoth (always : Option Always) (section : Option Section) (w : World) (choices : List Choice) : Type 0 where
  pub word : word_broken always w choices ≡ None
  pub apart : section_broken section w choices ≡ None

-- so it is of each list of these choices, or of each with fewer than so many
abbrev pub KeepsAll : Option Always → Option Section → List Choice → World → Type 0
KeepsAll always section meant w = (choices : List Choice) → IsListOf meant choices → KeepsBoth always section w choices

abbrev pub KeepsBefore : Option Always → Option Section → List Choice → World → ℕ → Type 0
KeepsBefore always section meant w count =
    (choices : List Choice) → IsListOf meant choices → length choices < count → KeepsBoth always section w choices

-- where no list fails, it is so of each; where one does, of each of fewer choices than it has turns
abbrev pub KeepsAlways : {Z : Type 0} → Option Always → Option Section → ScRefusals → ImageValue → List ℕ → Answer Z → Type 0
KeepsAlways always section refusals image inputs (Holds held) =
    KeepsAll always section (meant_choices refusals (length inputs)) (started image inputs)
KeepsAlways always section refusals image inputs (Fails failing) =
    KeepsBefore always section (meant_choices refusals (length inputs)) (started image inputs) failing.turns
KeepsAlways always section refusals image inputs (Hangs hanging) =
    KeepsAll always section (meant_choices refusals (length inputs)) (started image inputs)
KeepsAlways always section refusals image inputs Undecided = Unit {0}

-- the status of a failing run: what a word must be is broken after so many choices, or two harts
-- stand in the section then; or else under a rule that is broken, and without one a hart has faulted
abbrev pub failing_status : Option Kind → Option ℕ → Option ℕ → Status
failing_status rule (Some choices) both = status.Broken
failing_status rule None (Some choices) = status.Broken
failing_status None None None = status.Faulted
failing_status (Some kind) None None = status.Broken

-- an answer about every schedule of harts from a world is told by a text, a status and a finding
-- with a number of turns: by the lines, or by a choice text that reads as the list; or by an object
abbrev pub TellsEvery : {Z : Type 0} → Form → Option Kind → Option Always → Option Section → Exit → World → ℕ → Answer Z → Explored Z → Type 0
TellsEvery form rule always section exit w harts (Holds held) found =
    TellsHeld form exit held.places (ends_in held.ends) held.bounds.items found.text.items
    × (found.status ≡ status.Done) × (found.broken ≡ None) × (found.both ≡ None) × (found.finding ≡ finding.Holds)
TellsEvery form rule always section exit w harts (Fails failing) found =
    (found.text.items ≡ list_shown form (codes "fails") failing.turns failing.choices.items)
    × (choices_read harts (runs_text failing.choices.items) ≡ Ok failing.choices.items)
    × (found.status ≡ failing_status rule found.broken found.both) × (found.broken ≡ word_broken always w failing.choices.items)
    × (found.both ≡ section_broken section w failing.choices.items)
    × (found.finding ≡ finding.Fails failing.turns)
TellsEvery form rule always section exit w harts (Hangs hanging) found =
    (found.text.items ≡ list_shown form (codes "hangs") hanging.turns hanging.choices.items)
    × (choices_read harts (runs_text hanging.choices.items) ≡ Ok hanging.choices.items)
    × (found.status ≡ status.Faulted) × (found.broken ≡ None) × (found.both ≡ None) × (found.finding ≡ finding.Hangs hanging.turns)
TellsEvery form rule always section exit w harts Undecided found = ⊥

-- what is found tells an answer that holds of every schedule of an image
pub record IsExplored {Z : Type 0} (form : Form) (question : Question) (image : ImageValue) (inputs : List ℕ) (found : Explored Z) : Type 0 where
  pub answer : Answer Z
  pub holds : HoldsOfEvery question.expect.rule question.always question.never_both question.refusals image inputs answer
  pub keeps : KeepsAlways question.always question.never_both question.refusals image inputs answer
  pub counts : CountsPlaces question.never_both question.refusals image inputs question.most answer
  pub ends : TellsEnds question.expect.rule question.refusals image inputs answer
  pub exits : TellsExits question.never_both question.expect.exit question.refusals image inputs answer
  pub bounds : TellsBounds question.bounds question.refusals image inputs answer
  pub told : TellsEvery form question.expect.rule question.always question.never_both question.expect.exit (started image inputs) (length inputs) answer found

-- the same of an image that may have been opened
abbrev pub ExploresOpened : {Z : Type 0} → Form → Question → List ℕ → Result ImageValue CommandFault → Explored Z → Type 0
ExploresOpened form question inputs (Ok image) found = IsExplored form question image inputs found
ExploresOpened form question inputs (Err why) found = ⊥

-- choices lead to more worlds of an image than may be looked at
abbrev pub HasTooMany : Question → ImageValue → List ℕ → Type 0
HasTooMany question image inputs = CountsPlaces {Z = Unit {0}} question.never_both question.refusals image inputs question.most Undecided

-- why nothing is told: the file or the number of inputs is invalid, or there are too many worlds
abbrev pub RefusesOpened : Question → List ℕ → Result ImageValue CommandFault → CommandFault → Type 0
RefusesOpened question inputs (Ok image) why = (why ≡ fault.Undecided question.most) × HasTooMany question image inputs
RefusesOpened question inputs (Err why) other = other ≡ why
