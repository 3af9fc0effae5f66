use Rattle.std.proofs.Common.{◌≡◌, ◌++◌, ◌-◌}
use Rattle.trace_text.specs.Table.{columns_from}
use Rattle.trace_text.proofs.table.push_columns.Given as goal

-- the text so far, and then the columns that are left
abbrev pub invariant-harts : goal.invariant-harts
invariant-harts g l = l.out.items ++ columns_from l.explained l.hart (l.harts - l.hart) ≡ l.initial.out.items ++ columns_from l.explained 0 l.harts
