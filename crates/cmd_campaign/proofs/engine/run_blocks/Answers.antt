use Rattle.std.proofs.Common.{arith, ◌+◌, ◌||◌, map, refl, rules, ap, sym, ◌∙◌}
use Rattle.campaign_runs.specs.Runs.{seed_ending, endings_of}
use Rattle.cmd_campaign.specs.Status.{any_breaks, any_faults, first_failure, first_or}
use Rattle.cmd_campaign.proofs.BlockLemmas.{at_start, block_length, endings_none, fewer, goes_on, halts_between, halts_in_block, number_fits, room, seeds_all, seeds_within, split, stops}
use Rattle.cmd_campaign.proofs.engine.run_blocks.Goals as goal

pub blocks-2-init : goal.blocks-2-init
blocks-2-init g c = (
  at_start c.args.campaign.form c.args.campaign.report c.args.campaign.expect.exit _ _ _ _
      (ap (endings_of c.args.campaign c.args.image.now c.args.inputs.now) c.new-seeds.ensures) c.new-tally.ensures,
  (refl, λ never. never),
)

pub returns-in-Err-clause-begun : goal.returns-in-Err-clause-begun
returns-in-Err-clause-begun g c =
    halts_between c.args.campaign.form c.args.campaign.report c.args.campaign.expect.exit _ _ _ _ _ _ _ _ _ c.blocks-2.invariant.0

pub record_block-requires-clause-fits : goal.record_block-requires-clause-fits
record_block-requires-clause-fits g c =
    room c.args.campaign c.args.image.now c.args.inputs.now _ _ _ _ _ _ _ _ _ c.blocks-2.invariant.0 c.see_count.ensures
    c.deref.result.now
    (split c.args.campaign c.args.image.now c.args.inputs.now _ _ _ _ c.in-Some.ensures.order
    (ap (map seed_ending) c.deref.ensures.value ∙ c.in-Ok.ensures))

pub returns-in-Err-record_block-clause-begun : goal.returns-in-Err-record_block-clause-begun
returns-in-Err-record_block-clause-begun g c =
    halts_in_block c.args.campaign.form c.args.campaign.report c.args.campaign.expect.exit _ _ _ _ _ _ _ _ _ _ _ _
    (split c.args.campaign c.args.image.now c.args.inputs.now _ _ _ _ c.in-Some.ensures.order
    (ap (map seed_ending) c.deref.ensures.value ∙ c.in-Ok.ensures)) c.blocks-2.invariant.0
    c.in-Err-record_block.ensures.begun

pub overflow_add-done : goal.overflow_add-done
overflow_add-done g c =
    let ends = ap (map seed_ending) c.deref.ensures.value ∙ c.in-Ok.ensures in
    let h = number_fits c.args.campaign c.args.image.now c.args.inputs.now _ _ _ _ _ _ _ _ _ c.blocks-2.invariant.0 c.see_count.ensures
    _ c.in-Some.block.count (split c.args.campaign c.args.image.now c.args.inputs.now _ _ _ _ c.in-Some.ensures.order ends)
    (block_length c.args.campaign c.args.image.now c.args.inputs.now _ _ _ ends) in
    omega (arith, h)

pub blocks-2-smaller : goal.blocks-2-smaller
blocks-2-smaller g c = fewer c.in-Some.block.first c.in-Some.block.count _ _ c.in-Some.ensures.order c.in-Some.ensures.block.0

pub blocks-2-preserved : goal.blocks-2-preserved
blocks-2-preserved g c = (
  goes_on c.args.campaign.form c.args.campaign.report c.args.campaign.expect.exit _ _ (map seed_ending c.deref.result.now) _ _ _ _ _ _ _ _ _ _ _ _ _ _
      (split c.args.campaign c.args.image.now c.args.inputs.now _ _ _ _ c.in-Some.ensures.order
      (ap (map seed_ending) c.deref.ensures.value ∙ c.in-Ok.ensures))
      (ap (λ n. c.blocks-2.done + n) (sym (block_length c.args.campaign c.args.image.now c.args.inputs.now _ _ _
      (ap (map seed_ending) c.deref.ensures.value ∙ c.in-Ok.ensures))))
      c.in-Ok-record_block.ensures.written c.in-Ok-record_block.ensures.counted
      (c.add.ensures.broken ∙ ap (λ ends. c.blocks-2.found.is_broken || any_breaks (map seed_ending ends))
      (c.deref-in-Some.ensures.value ∙ sym c.deref.ensures.value))
      (c.add.ensures.faulted ∙ ap (λ ends. c.blocks-2.found.is_faulted || any_faults c.args.campaign.expect.exit (map seed_ending ends))
      (c.deref-in-Some.ensures.value ∙ sym c.deref.ensures.value))
      (c.add.ensures.first ∙ ap (λ ends. first_or c.blocks-2.found.first_failure (first_failure c.args.campaign.expect.exit (map seed_ending ends)))
      (c.deref-in-Some.ensures.value ∙ sym c.deref.ensures.value))
      c.blocks-2.invariant.0,
  (search rules, λ never. c.in-Some.ensures.still (c.blocks-2.invariant.1.1 never)),
)

pub returns-clause-written : goal.returns-clause-written
returns-clause-written g c =
    (stops c.args.campaign c.args.image.now c.args.inputs.now _ _ _ _ _ _ _ _ c.blocks-2.invariant.0 _
    c.finished.ensures.status c.finished.ensures.first c.finished.ensures.seeds).written

pub returns-clause-counted : goal.returns-clause-counted
returns-clause-counted g c =
    (stops c.args.campaign c.args.image.now c.args.inputs.now _ _ _ _ _ _ _ _ c.blocks-2.invariant.0 _
    c.finished.ensures.status c.finished.ensures.first c.finished.ensures.seeds).counted

pub returns-clause-finished : goal.returns-clause-finished
returns-clause-finished g c =
    (stops c.args.campaign c.args.image.now c.args.inputs.now _ _ _ _ _ _ _ _ c.blocks-2.invariant.0 _
    c.finished.ensures.status c.finished.ensures.first c.finished.ensures.seeds).finished_is

pub returns-clause-seeds : goal.returns-clause-seeds
returns-clause-seeds g c =
    seeds_within c.args.campaign c.args.image.now c.args.inputs.now _ _ _ _ _ _ _ _ c.blocks-2.invariant.0 c.finished.result c.finished.ensures.seeds

pub returns-clause-all : goal.returns-clause-all
returns-clause-all g c = λ never.
    seeds_all c.args.campaign c.args.image.now c.args.inputs.now _ _ _ _ _ _ _ _ c.blocks-2.invariant.0 c.finished.result c.finished.ensures.seeds
    (endings_none c.args.campaign c.args.image.now c.args.inputs.now _ (c.in_default.ensures.order (c.blocks-2.invariant.1.1 never)))
