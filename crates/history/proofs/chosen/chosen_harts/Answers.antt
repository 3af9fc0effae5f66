use Rattle.std.proofs.Common.{ap, sym, ◌∙◌}
use Rattle.machine.specs.Chosen.{is_chosen}
use Rattle.history.proofs.ChosenLemmas.{entry_more, none_chosen}
use Rattle.history.proofs.chosen.chosen_harts.Goals as goal

pub entries-init : goal.entries-init
entries-init g c = λ k. ap (λ cs. is_chosen cs k) c.new-chosen.ensures.items ∙ sym (none_chosen k)

pub entries-preserved : goal.entries-preserved
entries-preserved g c =
    entry_more c.args.history.now c.entries.entry-index _ c.entries.chosen.items c.add_hart.new.chosen.items
    c.entries-test.true c.in_ok-add_hart.ensures c.entries.invariant
