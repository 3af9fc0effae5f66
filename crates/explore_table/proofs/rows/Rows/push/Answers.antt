use Rattle.explore_table.proofs.RowLemmas.{ends_after, rows_after}
use Rattle.explore_table.proofs.rows.Rows.push.Goals as goal

pub invariant_of-self : goal.invariant_of-self
invariant_of-self g c =
    ends_after c.self.inside.ends.items c.self.inside.words.items c.args.row.now c.push_row.new.ends.items c.push_row.new.words.items
    c.self.invariant c.push_row.result c.push_row.ensures.words c.push_row.ensures.ends c.push_row.ensures.no_words
    c.push_row.ensures.no_ends

pub returns-clause-pushed : goal.returns-clause-pushed
returns-clause-pushed g c =
    rows_after c.self.inside.ends.items c.self.inside.words.items c.args.row.now c.push_row.new.ends.items c.push_row.new.words.items
    c.self.invariant c.push_row.result c.args.self.now c.self.view_is c.push_row.ensures.words c.push_row.ensures.ends
