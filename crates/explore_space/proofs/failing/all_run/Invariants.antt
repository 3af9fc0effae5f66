use Rattle.std.proofs.Common.{◌≡◌, true, take}
use Rattle.std.specs.List.{list_all}
use Rattle.explore_laws.specs.Bounds.{not_stopped}
use Rattle.explore_space.specs.Places.{hart_worded}
use Rattle.explore_space.proofs.failing.all_run.Given as goal

abbrev pub invariant-words : goal.invariant-words
invariant-words l = list_all (λ word. not_stopped (hart_worded l.harts word).state) (take l.word-index l.words) ≡ true
