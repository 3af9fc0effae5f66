use Rattle.explore_table.proofs.RowLemmas.{ends_none, rows_none}
use Rattle.explore_table.proofs.rows.Rows.new.Goals as goal

pub invariant_of-result : goal.invariant_of-result
invariant_of-result g c = ends_none c.new-2.result.items c.new.result.items c.new-2.ensures.items c.new.ensures.items

pub returns : goal.returns
returns g c = rows_none c.new-2.result.items c.new.result.items c.new-2.ensures.items
