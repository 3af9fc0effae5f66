use Rattle.std.proofs.Common.{◌≡◌, ◌++◌, drop}
use Rattle.trace_text.specs.Table.{more_effects}
use Rattle.trace_text.proofs.cell.push_more_effects.Given as goal

-- the text so far, and then the things that are left
abbrev pub invariant-effects : goal.invariant-effects
invariant-effects g l = l.out.items ++ more_effects (drop l.effect-index l.effects) ≡ l.initial.out.items ++ more_effects l.effects
