-- The choices that are left of a choice text.
use Rattle.std.specs.Prelude.{◌≡◌, ℕ, List, [], ◌∷◌, ◌++◌, length, Option, Some, None, Ok}
use Rattle.machine.specs.declared.choice.Choice.{Choice}
use Rattle.text_items.specs.Items.{items_from}
use Rattle.text_items.specs.Reading.{values_named}
use Rattle.sched_text.specs.declared.run.Run.{Run}
use Rattle.sched_text.specs.Runs.{equal_choices, expanded_runs}
use Rattle.sched_text.specs.Reading.{run_of, choices_read}

-- the items of a text from an offset on denote these runs
abbrev pub NamesFrom : ℕ → List ℕ → ℕ → List Run → Type 0
NamesFrom harts text at runs = values_named (run_of harts) (items_from at text) ≡ Ok runs

-- a run and the items from an offset on are these choices
pub record Leaves (harts : ℕ) (text : List ℕ) (at : ℕ) (named : Run) (left : List Choice) : Type 0 where
  pub runs : List Run
  pub read : NamesFrom harts text at runs
  pub in_order : left ≡ equal_choices named ++ expanded_runs runs

-- the first of these runs is the item's that ends at an offset, the others follow; or there is none
abbrev pub Follows : ℕ → List ℕ → List Run → Option (Run × ℕ) → Type 0
Follows harts text runs None = runs ≡ []
Follows harts text runs (Some named) =
    (more : List Run) × (runs ≡ named.0 ∷ more) × NamesFrom harts text named.1 more

-- a text spells a list of this many choices
pub record SpellsSoMany (harts : ℕ) (text : List ℕ) (count : ℕ) : Type 0 where
  pub choices : List Choice
  pub read : choices_read harts text ≡ Ok choices
  pub counted : count ≡ length choices
