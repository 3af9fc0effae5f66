use Rattle.std.proofs.Common.{◌≡◌, ℕ, ◌-◌, ◌<◌, ◌≤◌, length, Some}
use Rattle.cmd_shrink.specs.Switches.{hart_chosen_at}
use Rattle.cmd_shrink.proofs.runs.run_end.Given as goal

-- the choices so far are of the first one's hart
abbrev pub invariant-same : goal.invariant-same
invariant-same l = record {
  some : l.from < l.to;
  within : l.to ≤ length l.choices;
  first : hart_chosen_at l.from l.choices ≡ Some l.hart;
  one : (k : ℕ) → l.from ≤ k → k < l.to → hart_chosen_at k l.choices ≡ hart_chosen_at l.from l.choices;
}

abbrev pub decreases-same : goal.decreases-same
decreases-same l = length l.choices - l.to
