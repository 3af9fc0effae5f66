use Rattle.std.proofs.Common.{◌≡◌, ◌<◌, true, List, [], ◌∷◌, ◌++◌, length, refl, ap, sym, ◌∙◌, subst, arith}
use Rattle.hart_step.specs.Laws.{Keeps}
use Rattle.mem_store.specs.Image.{image_memory}
use Rattle.hart_local.specs.CodeMemory.{code_in}
use Rattle.hart_local.specs.LocalRuns.{plain_choices}
use Rattle.hart_local.proofs.StepLemmas.{code_kept}
use Rattle.machine.specs.State.{state}
use Rattle.machine.specs.World.{World, step}
use Rattle.machine.specs.declared.choice.Choice.{Choice}
use Rattle.explore_sites.specs.Own.{unrefused}
use Rattle.explore_space.specs.Habits.{habits_of, local_stride, takes_own_step, world_rested}
use Rattle.explore_space.proofs.TurnLists.{machine_ends, machine_more, machine_rests, machine_stops, rested_length, run_keeps_on, step_keeps_on, stepped_length}
use Rattle.explore_space.proofs.expanding.take_stride.Goals as goal

pub take_rest-requires-clause-code : goal.take_rest-requires-clause-code
take_rest-requires-clause-code g c =
    c.requires.code ∙ sym (code_kept (image_memory c.args.image.now) (state c.args.machine.now).memory c.requires.keeps)

pub own-init : goal.own-init
own-init g c =
    let habits = habits_of c.args.code.now in
    let h = c.args.number in
    let w = state c.args.machine.now in
    let there = c.in_ok-take_rest.ensures.world in
    record {
      way = machine_rests habits h w c.args.choices.now.items (state c.take_rest.new.machine) c.take_rest.new.choices.items there
          c.in_ok-take_rest.ensures.choices;
      there = subst (λ (x : World). h < length x.harts) (sym there) (rested_length habits w h h c.requires.there);
      keeps = subst (λ (x : World). Keeps (image_memory c.args.image.now) x.memory) (sym there)
          (run_keeps_on (image_memory c.args.image.now) w (plain_choices h (local_stride habits w h)) c.requires.keeps);
    }

pub returns-then-not-takes_own-clause-world : goal.returns-then-not-takes_own-clause-world
returns-then-not-takes_own-clause-world g c =
    let here = state c.own.machine in
    (machine_stops (habits_of c.args.code.now) c.args.number (state c.args.machine.now) c.args.choices.now.items c.own.counter here c.own.choices.items
    (sym (c.takes_own.ensures here c.hart.ensures c.own.invariant.keeps) ∙ c.if-not-takes_own.true) c.own.invariant.way).0

pub returns-then-not-takes_own-clause-choices : goal.returns-then-not-takes_own-clause-choices
returns-then-not-takes_own-clause-choices g c =
    let here = state c.own.machine in
    (machine_stops (habits_of c.args.code.now) c.args.number (state c.args.machine.now) c.args.choices.now.items c.own.counter here c.own.choices.items
    (sym (c.takes_own.ensures here c.hart.ensures c.own.invariant.keeps) ∙ c.if-not-takes_own.true) c.own.invariant.way).1

pub take_rest-requires-in-own-clause-code : goal.take_rest-requires-in-own-clause-code
take_rest-requires-in-own-clause-code g c =
    let m = image_memory c.args.image.now in
    let here = state c.own.machine in
    let plain : Choice = unrefused c.args.number in
    c.requires.code ∙ sym (code_kept m (step here plain).memory (step_keeps_on m here plain c.own.invariant.keeps))
    ∙ ap (λ (x : World). code_in x.memory) (sym c.in_ok-step.ensures.ok)

pub own-preserved : goal.own-preserved
own-preserved g c =
    let habits = habits_of c.args.code.now in
    let h = c.args.number in
    let m = image_memory c.args.image.now in
    let here = state c.own.machine in
    let plain : Choice = unrefused h in
    let stepped = c.in_ok-step.ensures.ok in
    let own : takes_own_step habits here h ≡ true
    = sym (c.takes_own.ensures here c.hart.ensures c.own.invariant.keeps) ∙ c.if-not-takes_own.false in
    let next_is = c.in_ok-take_rest-2.ensures.world ∙ ap (λ (x : World). world_rested habits x h) stepped in
    let more_is = c.in_ok-take_rest-2.ensures.choices
    ∙ ap (λ (cs : List Choice). cs ++ plain_choices h (local_stride habits (state c.step.new.self) h)) c.in_ok-push.ensures.items
    ∙ ap (λ (x : World). (c.own.choices.items ++ plain ∷ []) ++ plain_choices h (local_stride habits x h)) stepped in
    record {
      way = machine_more habits h (state c.args.machine.now) c.args.choices.now.items c.own.counter here (state c.take_rest-in-own.new.machine)
          c.own.choices.items c.take_rest-in-own.new.choices.items plain c.own-test.true own refl next_is more_is c.own.invariant.way;
      there = subst (λ (x : World). h < length x.harts) (sym next_is)
          (rested_length habits (step here plain) h h (stepped_length here plain h c.own.invariant.there));
      keeps = subst (λ (x : World). Keeps m x.memory) (sym next_is)
          (run_keeps_on m (step here plain) (plain_choices h (local_stride habits (step here plain) h)) (step_keeps_on m here plain c.own.invariant.keeps));
    }

pub returns-clause-world : goal.returns-clause-world
returns-clause-world g c =
    let past = c.own-test.false in
    (machine_ends (habits_of c.args.code.now) c.args.number (state c.args.machine.now) c.args.choices.now.items c.own.counter (state c.own.machine)
    c.own.choices.items (omega (arith, past)) c.own.invariant.way).0

pub returns-clause-choices : goal.returns-clause-choices
returns-clause-choices g c =
    let past = c.own-test.false in
    (machine_ends (habits_of c.args.code.now) c.args.number (state c.args.machine.now) c.args.choices.now.items c.own.counter (state c.own.machine)
    c.own.choices.items (omega (arith, past)) c.own.invariant.way).1
