use Rattle.std.proofs.Common.{◌≡◌, ℕ, ◌&&◌, ltb}
use Rattle.std.specs.List.{slice_index}
use Rattle.sched_run.specs.Chosen.{harts_of}
use Rattle.explore_space.specs.Places.{chosen_worded}
use Rattle.explore_space.proofs.failing.chosen_by_key.Given as goal

-- the harts so far that are marked
abbrev pub invariant-harts : goal.invariant-harts
invariant-harts l = (j : ℕ) → harts_of l.chosen j ≡ (ltb j l.k && chosen_worded (slice_index l.key j))
