use Rattle.std.proofs.Common.{true}
use Rattle.machine.specs.Start.{started}
use Rattle.explore_laws.specs.Places.{place_begun}
use Rattle.explore_space.specs.Begun.{world_begun}
use Rattle.explore_space.specs.Habits.{habits_of, stride_by_habit}
use Rattle.explore_space.specs.Places.{IsKeyOf}
use Rattle.explore_space.proofs.beginning.begun_key.Given as goal

-- the harts before this one have taken their first local steps
abbrev pub invariant-numbers : goal.invariant-numbers
invariant-numbers g l =
    IsKeyOf (habits_of l.code) l.image l.count l.harts.parts.items l.shareds l.key.items
    (place_begun (stride_by_habit (habits_of l.code)) (world_begun l.code.section (started l.image l.inputs) (λ h. true) l.number))
