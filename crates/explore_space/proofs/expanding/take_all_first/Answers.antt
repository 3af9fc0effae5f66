use Rattle.std.proofs.Common.{cond, List, [], ◌++◌, length, refl, ap, sym, ◌∙◌, arith}
use Rattle.std.proofs.lemmas.List.{append_assoc, append-nil}
use Rattle.hart_local.specs.CodeMemory.{code_in}
use Rattle.hart_local.specs.LocalRuns.{plain_choices}
use Rattle.machine.specs.Chosen.{is_chosen}
use Rattle.machine.specs.State.{state}
use Rattle.machine.specs.World.{World}
use Rattle.machine.specs.declared.choice.Choice.{Choice}
use Rattle.explore_space.specs.Begun.{begun_choices, first_steps, hart_begun}
use Rattle.explore_space.proofs.BeginLemmas.{first_more, first_none, world_more, world_none}
use Rattle.explore_space.proofs.BegunLemmas.{begun_count, begun_code}
use Rattle.explore_space.proofs.expanding.take_all_first.Goals as goal

pub harts-init : goal.harts-init
harts-init g c =
    let w = state c.args.machine.now in
    let asked = is_chosen c.args.turns.now in
    record {
      choices = sym (append-nil c.args.choices.now.items)
          ∙ ap (λ (cs : List Choice). c.args.choices.now.items ++ cs) (first_none c.args.code.now.section w asked);
      world = world_none c.args.code.now.section w asked;
    }

pub take_if_chosen-requires-clause-code : goal.take_if_chosen-requires-clause-code
take_if_chosen-requires-clause-code g c =
    let w = state c.args.machine.now in
    c.requires.code ∙ sym (begun_code c.args.code.now.section w (is_chosen c.args.turns.now) c.harts.number)
    ∙ ap (λ (x : World). code_in x.memory) (sym c.harts.invariant.world)

pub take_if_chosen-requires-clause-there : goal.take_if_chosen-requires-clause-there
take_if_chosen-requires-clause-there g c =
    let low = c.harts-test.true in
    let all = c.requires.there in
    let here = ap (λ (x : World). length x.harts) c.harts.invariant.world in
    let same = begun_count c.args.code.now.section (state c.args.machine.now) (is_chosen c.args.turns.now) c.harts.number in
    omega (arith, low, all, here, same)

pub harts-preserved : goal.harts-preserved
harts-preserved g c =
    let w = state c.args.machine.now in
    let asked = is_chosen c.args.turns.now in
    let n = c.harts.number in
    let start = c.args.choices.now.items in
    let first = begun_choices c.args.code.now.section w asked n in
    let m = state c.harts.machine in
    record {
      choices = c.in_ok-take_if_chosen.ensures.choices
          ∙ ap (λ (cs : List Choice). cs ++ cond (asked n) (plain_choices n (first_steps c.args.code.now.section m n)) []) c.harts.invariant.choices
          ∙ ap (λ (x : World). (start ++ first) ++ cond (asked n) (plain_choices n (first_steps c.args.code.now.section x n)) []) c.harts.invariant.world
          ∙ append_assoc start first _ ∙ ap (λ (cs : List Choice). start ++ cs) (first_more c.args.code.now.section w asked n (asked n) refl);
      world = c.in_ok-take_if_chosen.ensures.world ∙ ap (λ (x : World). cond (asked n) (hart_begun c.args.code.now.section x n) x) c.harts.invariant.world
          ∙ world_more c.args.code.now.section w asked n (asked n) refl;
    }
