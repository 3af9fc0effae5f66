use Rattle.std.proofs.Common.{◌≡◌, ℕ, take}
use Rattle.machine.specs.Chosen.{is_chosen}
use Rattle.sched_run.specs.Chosen.{harts_of}
use Rattle.explore_space.proofs.judging.chosen_by.Given as goal

-- the choices before this one have chosen these harts
abbrev pub invariant-choices : goal.invariant-choices
invariant-choices l = (k : ℕ) → harts_of l.chosen k ≡ is_chosen (take l.choice-index l.choices) k
