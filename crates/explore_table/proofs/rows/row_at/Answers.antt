use Rattle.std.proofs.Common.{◌-◌, ◌∙◌, Some, ap, arith, drop, get_or, length, sym, take}
use Rattle.explore_table.proofs.RowLemmas.{row_there, row_up, row_within}
use Rattle.explore_table.proofs.rows.row_at.Goals as goal

pub part-requires-clause-order : goal.part-requires-clause-order
part-requires-clause-order c =
    let is = c.begin_of-begin.ensures in
    let up = row_up 0 c.args.ends.now (length c.args.words.now) c.args.number c.requires.ends c.requires.within in
    omega (arith, is, up)

pub part-requires-clause-within : goal.part-requires-clause-within
part-requires-clause-within c =
    row_within 0 c.args.ends.now (length c.args.words.now) c.args.number c.requires.ends c.requires.within

pub returns : goal.returns
returns c =
    row_there 0 c.args.ends.now c.args.words.now c.args.number c.requires.within
    ∙ ap (λ b. Some (take (get_or c.args.ends.now c.args.number 0 - b) (drop b c.args.words.now))) (sym c.begin_of-begin.ensures)
    ∙ ap Some (sym c.part.ensures)
