use Rattle.std.proofs.Common.{◌≡◌, ℕ, ◌+◌, ◌-◌, length}
use Rattle.cmd_shrink.specs.Switches.{hart_chosen_at}
use Rattle.cmd_shrink.proofs.RunLemmas.{Moved}
use Rattle.cmd_shrink.proofs.few_switches.first_joined.Given as goal

-- the moves of the runs so far were tried
abbrev pub invariant-runs : goal.invariant-runs
invariant-runs g l = record {
  begins : (k : ℕ) → k + 1 ≡ l.from → hart_chosen_at k l.choices ≡ hart_chosen_at l.from l.choices → ⊥;
  moved : Moved l.choices (g.F.Failing.fails l.test) l.from;
}

abbrev pub decreases-runs : goal.decreases-runs
decreases-runs g l = length l.choices - l.from
