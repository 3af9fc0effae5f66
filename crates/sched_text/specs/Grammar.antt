-- The grammar of choice texts: which texts spell a list, and which item spoils a text. `Reading`
-- computes the same; `proofs/Agreement.antt` proves that the two agree.
use Rattle.std.specs.Prelude.{◌≡◌, ℕ, ◌<◌, ◌≤◌, List, [], ◌∷◌, ◌++◌}
use Rattle.std.specs.Str.Parse.{digits_value}
use Rattle.machine.specs.declared.choice.Choice.{Choice}
use Rattle.text_items.specs.Numbers.{IsNumber, mark_of}
use Rattle.text_items.specs.Spelling as texts
use Rattle.sched_text.specs.declared.run.Run.{Run}
use Rattle.sched_text.specs.declared.choice_text.ChoiceFault.{ChoiceFault}
use Rattle.sched_text.specs.declared.choice_text.ChoiceFault.TheVariants.{BadChoice, NoHart}
use Rattle.sched_text.specs.Runs.{expanded_runs}

-- nothing after a choice is a count of 1; `*` and a number from 1 to 16777216 is that count
abbrev pub Counts : List ℕ → ℕ → Type 0
Counts [] n = n ≡ 1
Counts (b ∷ digits) n = (b ≡ 42) × IsNumber digits × (digits_value 10 digits ≡ n) × (1 ≤ n) × (n ≤ 16777216)

-- the item is a hart's number, the mark, if there is one, and the count
pub record NamesRun (item : List ℕ) (r : Run) : Type 0 where
  pub digits : List ℕ
  pub counted : List ℕ
  pub text : item ≡ digits ++ (mark_of r.choice.refuse ++ counted)
  pub number : IsNumber digits
  pub value : digits_value 10 digits ≡ r.choice.hart
  pub count : Counts counted r.count

-- items with blanks between and around them, which denote these runs of choices of the harts
abbrev pub SpellsRuns : ℕ → List ℕ → List Run → Type 0
SpellsRuns harts text runs = texts.Spells NamesRun (λ r. r.choice.hart < harts) text runs

-- the text spells the choices of runs
pub record SpellsChoices (harts : ℕ) (text : List ℕ) (choices : List Choice) : Type 0 where
  pub runs : List Run
  pub spelled : SpellsRuns harts text runs
  pub in_order : choices ≡ expanded_runs runs

-- the text, which begins at an offset, has a bad item after good ones only: one that denotes no
-- run, or a run of a hart that doesn't exist
abbrev pub SpoilsChoices : ℕ → ℕ → List ℕ → ChoiceFault → Type 0
SpoilsChoices harts at text fault = texts.Spoils NamesRun (λ r. r.choice.hart < harts) BadChoice NoHart at text fault
