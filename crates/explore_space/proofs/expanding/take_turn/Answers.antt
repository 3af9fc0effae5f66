use Rattle.std.proofs.Common.{◌<◌, List, [], ◌∷◌, ◌++◌, length, ap, sym, ◌∙◌, subst, arith}
use Rattle.std.proofs.lemmas.List.{append_assoc}
use Rattle.hart_step.specs.Laws.{Keeps}
use Rattle.mem_store.specs.Image.{image_memory}
use Rattle.hart_local.specs.LocalRuns.{plain_choices}
use Rattle.machine.specs.State.{state}
use Rattle.machine.specs.World.{World}
use Rattle.machine.specs.declared.choice.Choice.{Choice}
use Rattle.explore_laws.proofs.TurnLemmas.{run_of_turn}
use Rattle.explore_laws.specs.Settling.{world_settled}
use Rattle.explore_space.specs.Habits.{habits_of, stride_by_habit}
use Rattle.explore_space.proofs.TurnLists.{nobody_runs, nobody_turns, step_keeps_on, stepped_length}
use Rattle.explore_space.proofs.expanding.take_turn.Goals as goal

pub returns-then-number-harts-clause-world : goal.returns-then-number-harts-clause-world
returns-then-number-harts-clause-world g c =
    let past = c.if-number-harts.true in
    let count = c.harts.ensures in
    nobody_runs (habits_of c.args.code.now) (state c.args.machine.now) c.args.turn (omega (arith, past, count))

pub returns-then-number-harts-clause-choices : goal.returns-then-number-harts-clause-choices
returns-then-number-harts-clause-choices g c =
    let past = c.if-number-harts.true in
    let count = c.harts.ensures in
    c.in_ok-push.ensures.items ∙ ap (λ (cs : List Choice). c.args.choices.now.items ++ cs)
    (nobody_turns (habits_of c.args.code.now) (state c.args.machine.now) c.args.turn (omega (arith, past, count)))

pub take_stride-requires-clause-keeps : goal.take_stride-requires-clause-keeps
take_stride-requires-clause-keeps g c =
    subst (λ (x : World). Keeps (image_memory c.args.image.now) x.memory) (sym c.in_ok-step.ensures.ok)
    (step_keeps_on (image_memory c.args.image.now) (state c.args.machine.now) c.args.turn c.requires.keeps)

pub take_stride-requires-clause-there : goal.take_stride-requires-clause-there
take_stride-requires-clause-there g c =
    let low = c.if-number-harts.false in
    let count = c.harts.ensures in
    subst (λ (x : World). c.args.turn.hart < length x.harts) (sym c.in_ok-step.ensures.ok)
    (stepped_length (state c.args.machine.now) c.args.turn c.args.turn.hart (omega (arith, low, count)))

pub returns-clause-world : goal.returns-clause-world
returns-clause-world g c =
    let stride = stride_by_habit (habits_of c.args.code.now) in
    c.in_ok-take_stride.ensures.world ∙ ap (λ (x : World). world_settled stride x c.args.turn.hart) c.in_ok-step.ensures.ok
    ∙ sym (run_of_turn stride (state c.args.machine.now) c.args.turn)

pub returns-clause-choices : goal.returns-clause-choices
returns-clause-choices g c =
    let stride = stride_by_habit (habits_of c.args.code.now) in
    let h = c.args.turn.hart in
    let k = stride (state c.step.new.self) h in
    c.in_ok-take_stride.ensures.choices
    ∙ ap (λ (cs : List Choice). cs ++ plain_choices h k) c.in_ok-push.ensures.items
    ∙ append_assoc c.args.choices.now.items (c.args.turn ∷ []) (plain_choices h k)
    ∙ ap (λ (x : World). c.args.choices.now.items ++ c.args.turn ∷ plain_choices h (stride x h)) c.in_ok-step.ensures.ok
