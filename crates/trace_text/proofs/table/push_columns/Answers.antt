use Rattle.std.proofs.Common.{rules, ◌≡◌, ◌++◌, ◌∷◌, [], codes, ◌<◌, ◌≤◌, List, ℕ, append-nil, ap, sym, ◌∙◌}
use Rattle.std.specs.Prelude.{◌==◌, if◌then◌else◌}
use Rattle.trace_text.specs.Table.{table_cell}
use Rattle.trace_text.proofs.TableLemmas.{next_column, columns_done}
use Rattle.trace_text.proofs.table.push_columns.Goals as goal

pub harts-preserved : goal.harts-preserved
harts-preserved g c =
    let e = c.args.explained.now in
    let h = c.harts.hart in
    let before = c.harts.out.items in
    let longer = c.push_column.new.out.items in
    let left : h < c.args.harts = search rules in
    let is_longer : longer ≡ before ++ ((if h == e.told.choice.hart then table_cell e else 32 ∷ []) ++ codes " |") = search rules in
    next_column before longer _ e h c.args.harts left is_longer c.harts.invariant

pub returns : goal.returns
returns g c =
    let out = c.harts.out.items in
    let past : c.args.harts ≤ c.harts.hart = search rules in
    sym (append-nil out) ∙ ap (λ (l : List ℕ). out ++ l) (sym (columns_done c.args.explained.now c.harts.hart c.args.harts past)) ∙ c.harts.invariant
