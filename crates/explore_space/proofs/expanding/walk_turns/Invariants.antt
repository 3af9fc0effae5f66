use Rattle.std.proofs.Common.{◌≡◌, ◌++◌, length, take}
use Rattle.machine.specs.Chosen.{is_chosen}
use Rattle.machine.specs.Start.{started}
use Rattle.machine.specs.State.{state}
use Rattle.machine.specs.World.{run}
use Rattle.explore_space.specs.Begun.{begun_choices, world_begun}
use Rattle.explore_space.proofs.expanding.walk_turns.Given as goal
use Rattle.explore_laws.specs.Settling.{turns_choices}
use Rattle.explore_space.specs.Habits.{habits_of, stride_by_habit}

-- the first local steps, the choices of the turns so far, and where they lead
abbrev pub invariant-turns : goal.invariant-turns
invariant-turns g l = record {
  choices : l.choices.items ≡ begun_choices l.code.section (started l.image l.inputs) (is_chosen l.turns) (length (started l.image l.inputs).harts)
      ++ turns_choices (stride_by_habit (habits_of l.code)) (world_begun l.code.section (started l.image l.inputs) (is_chosen l.turns) (length (started l.image l.inputs).harts)) (take l.turn-index l.turns);
  world : state l.machine ≡ run (world_begun l.code.section (started l.image l.inputs) (is_chosen l.turns) (length (started l.image l.inputs).harts))
      (turns_choices (stride_by_habit (habits_of l.code)) (world_begun l.code.section (started l.image l.inputs) (is_chosen l.turns) (length (started l.image l.inputs).harts)) (take l.turn-index l.turns));
}
