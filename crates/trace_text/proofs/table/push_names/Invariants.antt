use Rattle.std.proofs.Common.{◌≡◌, ◌++◌, ◌-◌}
use Rattle.trace_text.specs.Table.{names_from}
use Rattle.trace_text.proofs.table.push_names.Given as goal

-- the text so far, and then the names that are left
abbrev pub invariant-harts : goal.invariant-harts
invariant-harts g l = l.out.items ++ names_from l.hart (l.harts - l.hart) ≡ l.initial.out.items ++ names_from 0 l.harts
