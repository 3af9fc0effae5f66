use Rattle.std.proofs.Common.{◌≡◌, ◌-◌, ◌≤◌, length}
use Rattle.text_items.specs.Items.{items_from}
use Rattle.text_items.specs.Reading.{values_named}
use Rattle.sched_text.specs.Reading.{run_of, expanded_after, choices_read}
use Rattle.sched_text.proofs.choice_text.read_choices.Given as goal

abbrev pub invariant-items : goal.invariant-items
invariant-items g l =
    (l.from ≤ length l.text)
    × (choices_read l.harts l.text ≡ expanded_after l.choices.items (values_named (run_of l.harts) (items_from l.from l.text)))

abbrev pub decreases-items : goal.decreases-items
decreases-items g l = length l.text - l.from
