use Rattle.std.proofs.Common.{◌≡◌, ℕ, ◌-◌, ◌<◌, ◌≤◌, length, Some}
use Rattle.cmd_shrink.specs.Switches.{hart_chosen_at}
use Rattle.cmd_shrink.proofs.runs.next_of.Given as goal

-- the choices so far are of other harts
abbrev pub invariant-others : goal.invariant-others
invariant-others l = record {
  behind : l.to ≤ l.next;
  within : l.next ≤ length l.choices;
  first : hart_chosen_at l.from l.choices ≡ Some l.hart;
  others : (k : ℕ) → l.to ≤ k → k < l.next → hart_chosen_at k l.choices ≡ hart_chosen_at l.from l.choices → ⊥;
}

abbrev pub decreases-others : goal.decreases-others
decreases-others l = length l.choices - l.next
