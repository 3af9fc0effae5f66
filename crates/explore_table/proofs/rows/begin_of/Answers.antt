use Rattle.explore_table.proofs.RowLemmas.{begin_first, begin_behind}
use Rattle.explore_table.proofs.rows.begin_of.Goals as goal

pub returns-then-number-eq0 : goal.returns-then-number-eq0
returns-then-number-eq0 c = begin_first c.args.ends.now c.args.number c.if-number-eq0.true

pub returns : goal.returns
returns c = begin_behind 0 c.args.ends.now c.args.number c.if-number-eq0.false
