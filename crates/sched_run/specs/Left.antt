-- The choices of a text that are still to be read.
use Rattle.std.specs.Prelude.{ℕ, false, List, [], ◌∷◌, ◌++◌, Option, Some, None}
use Rattle.std.specs.declared.result.Result.{Result}
use Rattle.std.specs.declared.result.Result.TheVariants.{Ok, Err}
use Rattle.machine.specs.declared.choice.Choice.{Choice}
use Rattle.text_items.specs.Items.{Item, items_from}
use Rattle.sched_text.specs.declared.run.Run.{Run}
use Rattle.sched_text.specs.declared.choice_text.ChoiceFault.{ChoiceFault}
use Rattle.sched_text.specs.Runs.{equal_choices}
use Rattle.sched_text.specs.Reading.{run_of}
use Rattle.sched_run.specs.declared.reading.Reading.{Reading}

-- a choice of a hart whose store-conditional is not refused
abbrev pub plain : ℕ → Choice
plain hart = record { hart = hart; refuse = false }

-- choices, and the fault of the bad item after them, if there is one
pub record LeftChoices : Type 0 where
  pub choices : List Choice
  pub fault : Option ChoiceFault

-- no choices, and the end of the text or a bad item
abbrev pub none_left : Option ChoiceFault → LeftChoices
none_left fault = record { choices = []; fault = fault }

-- choices in front of those that are left
abbrev pub behind_choices : List Choice → LeftChoices → LeftChoices
behind_choices front left = record { choices = front ++ left.choices; fault = left.fault }

-- an item's choices and those of the items after it, or its fault
abbrev pub item_then : Result Run ChoiceFault → LeftChoices → LeftChoices
item_then (Ok r) left = behind_choices (equal_choices r) left
item_then (Err fault) left = none_left (Some fault)

-- the choices of items up to the first bad one, and its fault
abbrev pub left_of_items : ℕ → List Item → LeftChoices
left_of_items harts [] = none_left None
left_of_items harts (item ∷ items) = item_then (run_of harts item.at item.text) (left_of_items harts items)

-- those of the items from an offset on
abbrev pub left_after : ℕ → List ℕ → ℕ → LeftChoices
left_after harts text from = left_of_items harts (items_from from text)

-- the choices that are left
abbrev pub left_of : ℕ → List ℕ → Reading → LeftChoices
left_of harts text r = left_after harts text r.from
