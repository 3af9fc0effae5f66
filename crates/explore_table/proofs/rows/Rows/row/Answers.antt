use Rattle.std.proofs.Common.{List, ap, arith, length, ℕ}
use Rattle.explore_table.proofs.RowLemmas.{length_rows}
use Rattle.explore_table.proofs.rows.Rows.row.Goals as goal

pub row_at-requires-clause-within : goal.row_at-requires-clause-within
row_at-requires-clause-within g c =
    let low = c.requires in
    let value = ap (λ (ends : List ℕ). length ends) c.deref-2.ensures.value in
    let all = ap (λ (rows : List (List ℕ)). length rows) c.self.view_is in
    let count = length_rows 0 c.self.inside.ends.items c.self.inside.words.items in omega (arith, low, value, all, count)
