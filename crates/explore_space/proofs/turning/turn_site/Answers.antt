use Rattle.std.proofs.Common.{ap, arith, inl, inr}
use Rattle.hart_step.specs.Hart.{hart_of}
use Rattle.explore_space.specs.Habits.{habits_of}
use Rattle.explore_laws.specs.Bounds.{not_stopped}
use Rattle.explore_space.proofs.OwnLemmas.{comes_first, comes_more, no_turn, turn_ends, turn_stops}
use Rattle.explore_space.proofs.turning.turn_site.Goals as goal

pub returns-in-Exited-clause-turns : goal.returns-in-Exited-clause-turns
returns-in-Exited-clause-turns g c =
    no_turn (habits_of c.args.code.now) c.args.image.now c.args.turn (hart_of c.args.hart.now) _ _
    (elim c.in-Exited.is [
      | inl exited ↦ ap not_stopped exited.1
      | inr faulted ↦ ap not_stopped faulted.1
    ])

pub own-init : goal.own-init
own-init g c =
    let few = c.in_ok-steps.ensures.few in
    record {
      low = omega (arith, few);
      canonical = c.in_ok-steps.ensures.canonical;
      comes = λ w shows.
          comes_first (habits_of c.args.code.now) c.args.image.now c.args.turn w (hart_of c.steps_once.new.hart) _ _ c.in_ok-steps.steps
          (c.in_ok-steps.ensures.world w shows) (c.in_ok-steps.ensures.steps w shows);
    }

pub returns-then-not-takes_own-clause-turns : goal.returns-then-not-takes_own-clause-turns
returns-then-not-takes_own-clause-turns g c =
    turn_stops (habits_of c.args.code.now) c.args.image.now c.args.turn c.own.counter c.own.steps (hart_of c.own.hart) _ _
    (hart_of c.args.hart.now) _ _ c.in-Running.is c.own.invariant.comes c.takes_own.result c.takes_own.ensures c.if-not-takes_own.true

pub own-preserved : goal.own-preserved
own-preserved g c =
    let low = c.own.invariant.low in
    let few = c.in_ok-steps-2.ensures.few in
    record {
      low = omega (arith, low, few);
      canonical = λ was. c.in_ok-steps-2.ensures.canonical (c.own.invariant.canonical was);
      comes = λ w shows.
          comes_more (habits_of c.args.code.now) c.args.image.now c.args.turn c.own.counter c.own.steps (hart_of c.own.hart) _ _ w c.takes_own.result
          c.takes_own.ensures (c.own.invariant.comes w shows) (hart_of c.steps_once-in-own.new.hart) _ _ c.in_ok-steps-2.field-0
          c.own-test.true c.if-not-takes_own.false c.in_ok-steps-2.ensures.world c.in_ok-steps-2.ensures.steps;
    }

pub returns-clause-turns : goal.returns-clause-turns
returns-clause-turns g c =
    turn_ends (habits_of c.args.code.now) c.args.image.now c.args.turn c.own.counter c.own.steps (hart_of c.own.hart) _ _
    (hart_of c.args.hart.now) _ _ c.in-Running.is c.own.invariant.comes c.own-test.false
