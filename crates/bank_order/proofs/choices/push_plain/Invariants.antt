use Rattle.std.proofs.Common.{◌≡◌, ◌++◌, ◌≤◌}
use Rattle.bank_order.specs.Merged.{plain_steps}
use Rattle.bank_order.proofs.choices.push_plain.Given as goal

-- as many are there as were counted
abbrev pub invariant-choices : goal.invariant-choices
invariant-choices g l = (l.counter ≤ l.count) × (l.choices.items ≡ l.initial.choices.items ++ plain_steps l.hart l.counter)
