use Rattle.std.proofs.Common.{◌≡◌, length}
use Rattle.explore_space.specs.Habits.{habits_of}
use Rattle.explore_space.specs.Places.{place_of_key}
use Rattle.explore_space.proofs.OwnBoundLemmas.{AreSteps}
use Rattle.explore_space.proofs.own_steps.take_row.Given as goal

-- the steps of the turns before this one are there
abbrev pub invariant-turns : goal.invariant-turns
invariant-turns g l = record {
  count : length l.row.items ≡ l.turn-index;
  steps : AreSteps l.turns (place_of_key (habits_of l.explorer.known.code.now) l.explorer.known.image.now (length l.explorer.inputs.now) l.explorer.known.harts.parts.items
      l.explorer.known.shareds.parts.items l.key) l.row.items;
}
