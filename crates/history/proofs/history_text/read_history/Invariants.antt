use Rattle.std.proofs.Common.{◌≡◌, ◌-◌, ◌≤◌, length}
use Rattle.text_items.specs.Items.{items_from}
use Rattle.text_items.specs.Reading.{values_named, followed_by}
use Rattle.history.specs.Reading.{entry_of, entries_of}
use Rattle.history.proofs.history_text.read_history.Given as goal

abbrev pub invariant-items : goal.invariant-items
invariant-items g l =
    (l.from ≤ length l.text)
    × (entries_of l.harts l.text ≡ followed_by l.entries.items (values_named (entry_of l.harts) (items_from l.from l.text)))

abbrev pub decreases-items : goal.decreases-items
decreases-items g l = length l.text - l.from
