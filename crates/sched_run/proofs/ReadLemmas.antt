-- A choice text that is read up to an offset.
use Rattle.std.proofs.Common.{◌≡◌, ℕ, List, [], ◌++◌, Ok, Err, refl}
use Rattle.machine.specs.declared.choice.Choice.{Choice}
use Rattle.text_items.specs.Items.{items_from, text_between, IsFirstItem}
use Rattle.text_items.specs.Reading.{values_named}
use Rattle.sched_text.specs.declared.run.Run.{Run}
use Rattle.sched_text.specs.declared.choice_text.ChoiceFault.{ChoiceFault}
use Rattle.sched_text.specs.Runs.{equal_choices}
use Rattle.sched_text.specs.Reading.{run_of, expanded_after, choices_read}
use Rattle.sched_text.proofs.Agreement.{goes_on, stops}

-- the items before an offset name choices that the text begins with
pub record ReadSoFar (harts : ℕ) (text : List ℕ) (from : ℕ) : Type 0 where
  pub done : List Choice
  pub left : choices_read harts text ≡ expanded_after done (values_named (run_of harts) (items_from from text))

pub none_read : (harts : ℕ) (text : List ℕ) → ReadSoFar harts text 0
none_read harts text = record { done = []; left = refl }

pub item_read : (harts from begin end : ℕ) (text : List ℕ) (named : Run) → IsFirstItem from text begin end
    → run_of harts begin (text_between begin end text) ≡ Ok named → ReadSoFar harts text from → ReadSoFar harts text end
item_read harts from begin end text named first names s = record {
  done = s.done ++ equal_choices named;
  left = goes_on harts from begin end text s.done first s.left named names;
}

pub item_spoils : (harts from begin end : ℕ) (text : List ℕ) (fault : ChoiceFault) → IsFirstItem from text begin end
    → run_of harts begin (text_between begin end text) ≡ Err fault → ReadSoFar harts text from → choices_read harts text ≡ Err fault
item_spoils harts from begin end text fault first bad s = stops harts from begin end text s.done first s.left fault bad
