use Rattle.std.proofs.Common.{◌≡◌, length}
use Rattle.explore_space.specs.Habits.{habits_of}
use Rattle.explore_space.specs.Places.{place_of_key}
use Rattle.explore_space.proofs.OwnBoundLemmas.{AreRows}
use Rattle.explore_space.proofs.own_steps.steps_of_turns.Given as goal

-- the keys before this one have their rows
abbrev pub invariant-keys : goal.invariant-keys
invariant-keys g l = record {
  count : length l.steps ≡ l.number;
  rows : AreRows (place_of_key (habits_of l.explorer.known.code.now) l.explorer.known.image.now (length l.explorer.inputs.now) l.explorer.known.harts.parts.items
      l.explorer.known.shareds.parts.items) l.turns l.keys l.steps;
}
