use Rattle.std.proofs.Common.{◌≡◌, ◌++◌}
use Rattle.machine.specs.Chosen.{is_chosen}
use Rattle.machine.specs.State.{state}
use Rattle.explore_space.specs.Begun.{begun_choices, world_begun}
use Rattle.explore_space.proofs.expanding.take_all_first.Given as goal

-- the harts before this one have taken theirs
abbrev pub invariant-harts : goal.invariant-harts
invariant-harts g l = record {
  choices : l.choices.items ≡ l.fn.choices.items ++ begun_choices l.code.section (state l.fn.machine) (is_chosen l.turns) l.number;
  world : state l.machine ≡ world_begun l.code.section (state l.fn.machine) (is_chosen l.turns) l.number;
}
