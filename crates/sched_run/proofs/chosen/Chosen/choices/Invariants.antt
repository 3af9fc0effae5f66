use Rattle.std.proofs.Common.{◌≡◌, ℕ, ◌&&◌, ltb}
use Rattle.machine.specs.Chosen.{is_chosen}
use Rattle.sched_run.specs.Harts.{marked_at}
use Rattle.sched_run.proofs.chosen.Chosen.choices.Given as goal

-- the harts of the marks so far
abbrev pub invariant-harts : goal.invariant-harts
invariant-harts g l = (k : ℕ) → is_chosen l.choices.items k ≡ (ltb k l.hart && marked_at l.self.marks k)
