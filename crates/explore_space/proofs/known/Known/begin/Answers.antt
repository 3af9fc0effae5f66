use Rattle.std.proofs.Common.{length, sym, subst}
use Rattle.std.specs.Prelude.{IfOk}
use Rattle.machine.specs.Start.{started}
use Rattle.explore_laws.specs.Places.{place_begun}
use Rattle.explore_space.specs.Begun.{turns_start}
use Rattle.explore_space.specs.Habits.{habits_of, stride_by_habit}
use Rattle.explore_space.specs.Places.{IsKeyOf}
use Rattle.explore_space.proofs.known.Known.begin.Goals as goal

pub begun_key-requires-clause-is : goal.begun_key-requires-clause-is
begun_key-requires-clause-is g c =
    subst (λ shareds. IsKeyOf (habits_of c.args.self.now.code.now) c.args.self.now.image.now (length c.args.inputs.now) c.first_parts.new.harts.parts.items shareds c.in_ok-key.key.items
    (place_begun (stride_by_habit (habits_of c.args.self.now.code.now)) (started c.args.self.now.image.now c.args.inputs.now))) (sym c.deref.ensures.value) (c.in_ok-key.ensures (habits_of c.args.self.now.code.now))

pub returns-clause-key : goal.returns-clause-key
returns-clause-key g c =
    subst (λ shareds. IfOk c.begun_key.result (λ k. IsKeyOf (habits_of c.args.self.now.code.now) c.args.self.now.image.now (length c.args.inputs.now) c.begun_key.new.harts.parts.items
    shareds k.items (turns_start (habits_of c.args.self.now.code.now) (started c.args.self.now.image.now c.args.inputs.now)))) c.deref.ensures.value
    c.begun_key.ensures
