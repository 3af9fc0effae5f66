use Rattle.std.proofs.Common.{◌<◌, length}
use Rattle.hart_step.specs.Laws.{Keeps}
use Rattle.mem_store.specs.Image.{image_memory}
use Rattle.machine.specs.State.{state}
use Rattle.explore_space.specs.Habits.{habits_of}
use Rattle.explore_space.proofs.TurnLists.{IsWorldUnderWay}
use Rattle.explore_space.proofs.expanding.take_stride.Given as goal

-- so many steps on own words are taken
abbrev pub invariant-own : goal.invariant-own
invariant-own g l = record {
  way : IsWorldUnderWay (habits_of l.code) l.number l.counter (state l.fn.machine) (state l.machine) l.fn.choices.items l.choices.items;
  there : l.number < length (state l.machine).harts;
  keeps : Keeps (image_memory l.image) (state l.machine).memory;
}
