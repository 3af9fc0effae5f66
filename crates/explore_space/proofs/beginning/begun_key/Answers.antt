use Rattle.std.proofs.Common.{sym, subst}
use Rattle.machine.specs.Start.{started}
use Rattle.explore_laws.specs.Places.{place_begun}
use Rattle.explore_space.specs.Habits.{habits_of, stride_by_habit}
use Rattle.explore_space.specs.Places.{IsKeyOf}
use Rattle.explore_space.proofs.BeginLemmas.{begun_more, begun_none}
use Rattle.explore_space.proofs.beginning.begun_key.Goals as goal

pub numbers-init : goal.numbers-init
numbers-init g c =
    let w = started c.args.image.now c.args.inputs.now in
    begun_none (habits_of c.args.code.now) c.args.image.now _ c.args.harts.now.parts.items c.args.shareds.now c.args.key.items w
    (subst (λ n. IsKeyOf (habits_of c.args.code.now) c.args.image.now n c.args.harts.now.parts.items c.args.shareds.now c.args.key.items
    (place_begun (stride_by_habit (habits_of c.args.code.now)) w)) (sym c.harts-count.ensures.harts) c.requires.is)

pub numbers-preserved : goal.numbers-preserved
numbers-preserved g c =
    begun_more (habits_of c.args.code.now) c.args.image.now c.harts-count.result c.numbers.harts.parts.items c.begin_hart.new.harts.parts.items
    c.args.shareds.now c.numbers.key.items c.in_ok-key.key.items (started c.args.image.now c.args.inputs.now) c.numbers.number c.numbers.invariant
    c.in_ok-key.ensures
