use Rattle.std.proofs.Common.{◌≡◌, ◌+◌, List, [], ◌∷◌, ◌++◌, length, take, get_or, false, ap, sym, ◌∙◌, subst, arith}
use Rattle.std.proofs.lemmas.List.{append_assoc, append-nil, take_all, take_more}
use Rattle.hart_local.specs.CodeMemory.{code_in}
use Rattle.hart_local.proofs.RunLemmas.{code_of_run}
use Rattle.machine.specs.Chosen.{is_chosen}
use Rattle.machine.specs.Start.{started}
use Rattle.machine.specs.State.{state}
use Rattle.machine.specs.World.{World, run}
use Rattle.machine.specs.declared.choice.Choice.{Choice}
use Rattle.machine.proofs.RunLaws.{length-started}
use Rattle.explore_space.specs.Begun.{begun_choices, world_begun}
use Rattle.explore_space.proofs.BegunLemmas.{run_of_begun}
use Rattle.explore_space.proofs.TurnLists.{run_keeps_on, run_last, started_keeps, turns_last, turns_none}
use Rattle.explore_space.proofs.expanding.walk_turns.Goals as goal
use Rattle.explore_laws.proofs.ListLemmas.{run_joined, run_nothing}
use Rattle.explore_laws.specs.Settling.{turn_choices, turns_choices}
use Rattle.hart_step.specs.Laws.{Keeps}
use Rattle.mem_store.specs.Image.{image_memory}
use Rattle.explore_space.specs.Habits.{habits_of, stride_by_habit}

pub take_all_first-requires-clause-code : goal.take_all_first-requires-clause-code
take_all_first-requires-clause-code g c =
    let w = started c.args.image.now c.args.inputs.now in
    c.requires ∙ sym (code_of_run c.args.image.now c.args.inputs.now [])
    ∙ ap (λ (x : World). code_in x.memory) (run_nothing w ∙ sym c.in_ok-machine.ensures.begun)

pub take_all_first-requires-clause-there : goal.take_all_first-requires-clause-there
take_all_first-requires-clause-there g c =
    ap (λ (x : World). length x.harts) c.in_ok-machine.ensures.begun ∙ length-started c.args.image.now c.args.inputs.now
    ∙ sym c.harts.ensures.harts

pub turns-init : goal.turns-init
turns-init g c =
    let w = started c.args.image.now c.args.inputs.now in
    let asked = is_chosen c.args.turns.now in
    let n = length w.harts in
    let at = world_begun c.args.code.now.section w asked n in
    let count = c.harts.result in
    let count_is : count ≡ n = c.harts.ensures.harts ∙ sym (length-started c.args.image.now c.args.inputs.now) in
    record {
      choices = c.in_ok-take_all_first.ensures.choices
          ∙ ap (λ (cs : List Choice). cs ++ begun_choices c.args.code.now.section (state c.in_ok-machine.machine) asked count) c.new-choices.ensures.items
          ∙ ap (λ (x : World). begun_choices c.args.code.now.section x asked count) c.in_ok-machine.ensures.begun ∙ ap (begun_choices c.args.code.now.section w asked) count_is
          ∙ sym (append-nil (begun_choices c.args.code.now.section w asked n)) ∙ ap (λ (cs : List Choice). begun_choices c.args.code.now.section w asked n ++ cs) (turns_none (stride_by_habit (habits_of c.args.code.now)) at);
      world = c.in_ok-take_all_first.ensures.world ∙ ap (λ (x : World). world_begun c.args.code.now.section x asked count) c.in_ok-machine.ensures.begun
          ∙ ap (world_begun c.args.code.now.section w asked) count_is ∙ sym (run_nothing at) ∙ ap (run at) (turns_none (stride_by_habit (habits_of c.args.code.now)) at);
    }

pub take_turn-requires-clause-keeps : goal.take_turn-requires-clause-keeps
take_turn-requires-clause-keeps g c =
    let w = started c.args.image.now c.args.inputs.now in
    let asked = is_chosen c.args.turns.now in
    let n = length w.harts in
    let section = c.args.code.now.section in
    let first = begun_choices section w asked n in
    let at = world_begun section w asked n in
    let all = turns_choices (stride_by_habit (habits_of c.args.code.now)) at (take c.turns.turn-index c.args.turns.now) in
    subst (λ (x : World). Keeps (image_memory c.args.image.now) x.memory)
    (ap (λ (x : World). run x all) (run_of_begun section w asked n) ∙ sym c.turns.invariant.world)
    (run_keeps_on (image_memory c.args.image.now) (run w first) all
    (run_keeps_on (image_memory c.args.image.now) w first (started_keeps c.args.image.now c.args.inputs.now)))

pub turns-preserved : goal.turns-preserved
turns-preserved g c =
    let w = started c.args.image.now c.args.inputs.now in
    let asked = is_chosen c.args.turns.now in
    let n = length w.harts in
    let first = begun_choices c.args.code.now.section w asked n in
    let at = world_begun c.args.code.now.section w asked n in
    let before = take c.turns.turn-index c.args.turns.now in
    let turn : Choice = get_or c.args.turns.now c.turns.turn-index (record { hart = 0; refuse = false }) in
    let all = turns_choices (stride_by_habit (habits_of c.args.code.now)) at before in
    let taken : take (c.turns.turn-index + 1) c.args.turns.now ≡ before ++ turn ∷ []
    = take_more c.args.turns.now c.turns.turn-index (record { hart = 0; refuse = false }) c.turns-test.true in
    let more : all ++ turn_choices (stride_by_habit (habits_of c.args.code.now)) (run at all) turn ≡ turns_choices (stride_by_habit (habits_of c.args.code.now)) at (take (c.turns.turn-index + 1) c.args.turns.now)
    = sym (turns_last (stride_by_habit (habits_of c.args.code.now)) at before turn) ∙ ap (turns_choices (stride_by_habit (habits_of c.args.code.now)) at) (sym taken) in
    record {
      choices = c.in_ok-take_turn.ensures.choices
          ∙ ap (λ (cs : List Choice). cs ++ turn_choices (stride_by_habit (habits_of c.args.code.now)) (state c.turns.machine) turn) c.turns.invariant.choices
          ∙ ap (λ (x : World). (first ++ all) ++ turn_choices (stride_by_habit (habits_of c.args.code.now)) x turn) c.turns.invariant.world
          ∙ append_assoc first all (turn_choices (stride_by_habit (habits_of c.args.code.now)) (run at all) turn) ∙ ap (λ (cs : List Choice). first ++ cs) more;
      world = c.in_ok-take_turn.ensures.world ∙ ap (λ (x : World). run x (turn_choices (stride_by_habit (habits_of c.args.code.now)) x turn)) c.turns.invariant.world
          ∙ run_last (stride_by_habit (habits_of c.args.code.now)) at all turn ∙ ap (run at) more;
    }

pub returns-clause-choices : goal.returns-clause-choices
returns-clause-choices g c =
    let w = started c.args.image.now c.args.inputs.now in
    let section = c.args.code.now.section in
    let asked = is_chosen c.args.turns.now in
    let n = length w.harts in
    let past = c.turns-test.false in
    let all = take_all c.turns.turn-index c.args.turns.now (omega (arith, past)) in
    c.turns.invariant.choices
    ∙ ap (λ (ts : List Choice). begun_choices section w asked n
    ++ turns_choices (stride_by_habit (habits_of c.args.code.now)) (world_begun section w asked n) ts) all

pub returns-clause-world : goal.returns-clause-world
returns-clause-world g c =
    let w = started c.args.image.now c.args.inputs.now in
    let section = c.args.code.now.section in
    let asked = is_chosen c.args.turns.now in
    let n = length w.harts in
    let first = begun_choices section w asked n in
    let at = world_begun section w asked n in
    let all = turns_choices (stride_by_habit (habits_of c.args.code.now)) at (take c.turns.turn-index c.args.turns.now) in
    c.turns.invariant.world
    ∙ sym (ap (run w) c.turns.invariant.choices ∙ run_joined w first all ∙ ap (λ (x : World). run x all) (run_of_begun section w asked n))
