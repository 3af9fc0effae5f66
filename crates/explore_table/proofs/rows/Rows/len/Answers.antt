use Rattle.std.proofs.Common.{◌∙◌, List, ap, length, sym, ℕ}
use Rattle.explore_table.proofs.RowLemmas.{length_rows}
use Rattle.explore_table.proofs.rows.Rows.len.Goals as goal

pub returns : goal.returns
returns g c =
    c.len.ensures ∙ c.self.inside.ends.ok.0 ∙ sym (length_rows 0 c.self.inside.ends.items c.self.inside.words.items)
    ∙ ap (λ (rows : List (List ℕ)). length rows) c.self.view_is
