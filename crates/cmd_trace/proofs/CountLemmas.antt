-- A choice text that is counted up to an offset.
use Rattle.std.proofs.Common.{◌≡◌, ℕ, zero, suc, ◌+◌, List, [], ◌++◌, length, Ok, Err, refl, ap, sym, ◌∙◌, length-append}
use Rattle.std.specs.Prelude.{replicate}
use Rattle.machine.specs.declared.choice.Choice.{Choice}
use Rattle.text_items.specs.Items.{items_from, text_between, IsFirstItem}
use Rattle.text_items.specs.Reading.{values_named}
use Rattle.sched_text.specs.declared.run.Run.{Run}
use Rattle.sched_text.specs.declared.choice_text.ChoiceFault.{ChoiceFault}
use Rattle.sched_text.specs.Runs.{equal_choices}
use Rattle.sched_text.specs.Reading.{run_of, expanded_after, choices_read}
use Rattle.sched_text.proofs.Agreement.{goes_on, stops, read_whole}
use Rattle.cmd_trace.specs.Left.{SpellsSoMany}

-- the items before an offset denote this number of choices, which the text begins with
pub record CountedSoFar (harts : ℕ) (text : List ℕ) (from count : ℕ) : Type 0 where
  pub done : List Choice
  pub left : choices_read harts text ≡ expanded_after done (values_named (run_of harts) (items_from from text))
  pub counted : count ≡ length done

pub none_counted : (harts : ℕ) (text : List ℕ) → CountedSoFar harts text 0 0
none_counted harts text = record { done = []; left = refl; counted = refl }

length-equal : (n : ℕ) (c : Choice) → length (replicate n c) ≡ n
length-equal zero c = refl
length-equal (suc n) c = ap suc (length-equal n c)

pub item_counted : (harts from begin end count more : ℕ) (text : List ℕ) (named : Run) → IsFirstItem from text begin end
    → run_of harts begin (text_between begin end text) ≡ Ok named → more ≡ count + named.count → CountedSoFar harts text from count
    → CountedSoFar harts text end more
item_counted harts from begin end count more text named first names sum s = record {
  done = s.done ++ equal_choices named;
  left = goes_on harts from begin end text s.done first s.left named names;
  counted = sum ∙ ap (λ n. n + named.count) s.counted ∙ ap (λ n. length s.done + n) (sym (length-equal named.count named.choice))
      ∙ sym (length-append s.done (equal_choices named));
}

pub item_spoils : (harts from begin end count : ℕ) (text : List ℕ) (fault : ChoiceFault) → IsFirstItem from text begin end
    → run_of harts begin (text_between begin end text) ≡ Err fault → CountedSoFar harts text from count → choices_read harts text ≡ Err fault
item_spoils harts from begin end count text fault first bad s = stops harts from begin end text s.done first s.left fault bad

pub all_counted : (harts from count : ℕ) (text : List ℕ) → items_from from text ≡ [] → CountedSoFar harts text from count
    → SpellsSoMany harts text count
all_counted harts from count text none s =
    record { choices = s.done; read = read_whole harts from text s.done none s.left; counted = s.counted }
