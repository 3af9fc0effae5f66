use Rattle.std.proofs.Common.{◌+◌, List, [], length, map, Some, ap, sym, ◌∙◌, arith}
use Rattle.std.proofs.lemmas.List.{length-append, length-map}
use Rattle.std.proofs.lemmas.Option.{slice_get-get_or, slice_get-map}
use Rattle.std.specs.Option.{option_map}
use Rattle.std.specs.List.{slice_get}
use Rattle.hart_step.specs.Hart.{HartValue, hart_of}
use Rattle.hart_local.specs.CodeMemory.{code_in}
use Rattle.hart_local.proofs.RunLemmas.{code_of_run}
use Rattle.machine.specs.Start.{started}
use Rattle.machine.specs.World.{World}
use Rattle.machine.proofs.RunLaws.{length-started}
use Rattle.explore_space.proofs.BeginLemmas.{first_of_more, first_of_none}
use Rattle.explore_space.proofs.beginning.begun_steps.Goals as goal
use Rattle.explore_laws.proofs.ListLemmas.{run_nothing}

pub harts-init : goal.harts-init
harts-init g c = record {
  count = ap length c.new-steps.ensures.items;
  low = (let none = ap length c.new-steps.ensures.items in omega (arith, none));
  are = first_of_none c.args.code.now.section (started c.args.image.now c.args.inputs.now) _ c.new-steps.ensures.items;
}

pub harts-preserved : goal.harts-preserved
harts-preserved g c =
    let w = started c.args.image.now c.args.inputs.now in
    let hs = c.deref-hart-items.result.now in
    let at = ap (λ (xs : List HartValue). slice_get xs c.harts.hart-index)
    (sym c.in_ok-harts.ensures ∙ ap (map hart_of) (sym c.deref-hart-items.ensures.value)) ∙ slice_get-map hart_of hs c.harts.hart-index
    ∙ ap (option_map hart_of) (slice_get-get_or hs c.harts.hart-index c.hart-item.result c.harts-test.true ∙ ap Some (sym c.hart-item.is)) in
    let code_is = c.requires ∙ sym (code_of_run c.args.image.now c.args.inputs.now []) ∙ ap (λ (x : World). code_in x.memory) (run_nothing w) in
    let len = sym (length-map hs hart_of)
    ∙ ap length (ap (map hart_of) c.deref-hart-items.ensures.value ∙ c.in_ok-harts.ensures)
    ∙ length-started c.args.image.now c.args.inputs.now in
    let here = c.harts-test.true in
    let count = ap length c.in_ok-push.ensures.items ∙ length-append c.harts.steps.items _ ∙ ap (λ n. n + 1) c.harts.invariant.count in
    record {
      count = count;
      low = omega (arith, count, here, len);
      are = first_of_more c.args.code.now.section w c.harts.steps.items c.push.new.self.items c.harts.hart-index _ c.harts.invariant.count
          (c.steps_of_hart.ensures w c.harts.hart-index at code_is) c.harts.invariant.are c.in_ok-push.ensures.items;
    }

pub returns-clause-count : goal.returns-clause-count
returns-clause-count g c =
    let len = sym (length-map c.deref-hart-items.result.now hart_of)
    ∙ ap length (ap (map hart_of) c.deref-hart-items.ensures.value ∙ c.in_ok-harts.ensures)
    ∙ length-started c.args.image.now c.args.inputs.now in
    let past = c.harts-test.false in
    let count = c.harts.invariant.count in
    let low = c.harts.invariant.low in
    omega (arith, len, past, count, low)
