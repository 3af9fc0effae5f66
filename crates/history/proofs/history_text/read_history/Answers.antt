use Rattle.std.proofs.Common.{ap, sym, ◌∙◌}
use Rattle.text_items.specs.Items.{items_from}
use Rattle.text_items.specs.Reading.{values_named, followed_by}
use Rattle.text_items.proofs.Agreement.{goes_on, stops, read_whole}
use Rattle.history.specs.Reading.{entry_of}
use Rattle.history.proofs.Agreement.{spells_of, spoils_of, hart_within}
use Rattle.history.proofs.history_text.read_history.Goals as goal

pub items-preserved : goal.items-preserved
items-preserved g c =
    let first = c.in-Some.ensures.some in (
      first.within,
      goes_on (entry_of c.args.harts) c.items.from c.in-Some.begin c.in-Some.end c.args.text.now c.items.entries.items first c.items.invariant.1 c.in-Ok.entry (sym c.in-Ok.ensures)
          ∙ ap (λ entries. followed_by entries (values_named (entry_of c.args.harts) (items_from c.in-Some.end c.args.text.now))) (sym c.in-Ok-push.ensures.items),
    )

pub returns-in-Err-clause-spoiled : goal.returns-in-Err-clause-spoiled
returns-in-Err-clause-spoiled g c = λ no_memory.
    spoils_of c.args.harts c.args.text.now c.in-Err.fault c.ranges.harts.fits
    (stops (entry_of c.args.harts) c.items.from c.in-Some.begin c.in-Some.end c.args.text.now c.items.entries.items c.in-Some.ensures.some c.items.invariant.1 c.in-Err.fault (sym c.in-Err.ensures))

pub returns-clause-spelled : goal.returns-clause-spelled
returns-clause-spelled g c =
    spells_of c.args.harts c.args.text.now c.items.entries.items c.ranges.harts.fits
    (read_whole (entry_of c.args.harts) c.items.from c.args.text.now c.items.entries.items c.in_default.ensures.none c.items.invariant.1)

pub returns-clause-within : goal.returns-clause-within
returns-clause-within g c =
    hart_within c.args.harts c.args.text.now c.items.entries.items
    (spells_of c.args.harts c.args.text.now c.items.entries.items c.ranges.harts.fits
    (read_whole (entry_of c.args.harts) c.items.from c.args.text.now c.items.entries.items c.in_default.ensures.none c.items.invariant.1))
