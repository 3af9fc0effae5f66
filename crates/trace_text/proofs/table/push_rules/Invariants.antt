use Rattle.std.proofs.Common.{◌≡◌, ◌++◌, ◌-◌}
use Rattle.trace_text.specs.Table.{rules_of}
use Rattle.trace_text.proofs.table.push_rules.Given as goal

-- the text so far, and then the rules that are left
abbrev pub invariant-harts : goal.invariant-harts
invariant-harts g l = l.out.items ++ rules_of (l.harts - l._hart) ≡ l.initial.out.items ++ rules_of l.harts
