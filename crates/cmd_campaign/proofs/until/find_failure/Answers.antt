use Rattle.std.proofs.Common.{arith, ◌+◌, map, refl, ap, sym, ◌∙◌}
use Rattle.campaign_runs.specs.Runs.{endings_of, seed_ending}
use Rattle.cmd_campaign.proofs.BlockLemmas.{block_length, endings_none, fewer, split}
use Rattle.cmd_campaign.proofs.UntilLemmas.{ended_without, first_of_failed, first_of_none, found_in_block, none_in_block, none_yet, number_fits, seeds_within, told_of_first}
use Rattle.cmd_campaign.proofs.until.find_failure.Goals as goal

pub blocks-2-init : goal.blocks-2-init
blocks-2-init g c = (
  none_yet c.args.campaign.expect.exit _ _ (ap (endings_of c.args.campaign c.args.image.now c.args.inputs.now) c.new-seeds.ensures),
  λ never. never,
)

pub returns-in-Some-first_failing-clause-found : goal.returns-in-Some-first_failing-clause-found
returns-in-Some-first_failing-clause-found g c =
    let ends = ap (map seed_ending) c.deref.ensures.value ∙ c.in_ok-ends.ensures in
    let h = found_in_block c.args.campaign.expect.exit _ _ (map seed_ending c.deref.result.now) _ _ _
    (split c.args.campaign c.args.image.now c.args.inputs.now _ _ _ _ c.in-Some.ensures.order ends)
    (ap (λ n. c.blocks-2.done + n) (sym (block_length c.args.campaign c.args.image.now c.args.inputs.now _ _ _ ends)))
    c.blocks-2.invariant.0 _ c.in-Some-first_failing.ensures in
    told_of_first c.args.campaign.expect.exit c.args.campaign c.args.image.now c.args.inputs.now c.args.campaign.form _ _ _ _
    c.in_ok-answer.ensures h.done _ h.order h.counting h.found

pub returns-in-Some-first_failing-clause-seeds : goal.returns-in-Some-first_failing-clause-seeds
returns-in-Some-first_failing-clause-seeds g c =
    let ends = ap (map seed_ending) c.deref.ensures.value ∙ c.in_ok-ends.ensures in
    let h = found_in_block c.args.campaign.expect.exit _ _ (map seed_ending c.deref.result.now) _ _ _
    (split c.args.campaign c.args.image.now c.args.inputs.now _ _ _ _ c.in-Some.ensures.order ends)
    (ap (λ n. c.blocks-2.done + n) (sym (block_length c.args.campaign c.args.image.now c.args.inputs.now _ _ _ ends)))
    c.blocks-2.invariant.0 _ c.in-Some-first_failing.ensures in
    seeds_within c.args.campaign.expect.exit c.args.campaign c.args.image.now c.args.inputs.now c.args.campaign.form _ _ _ _
    c.in_ok-answer.ensures h.done _ h.order h.counting h.found

pub returns-in-Some-first_failing-clause-first : goal.returns-in-Some-first_failing-clause-first
returns-in-Some-first_failing-clause-first g c = λ never.
    let ends = ap (map seed_ending) c.deref.ensures.value ∙ c.in_ok-ends.ensures in
    let h = found_in_block c.args.campaign.expect.exit _ _ (map seed_ending c.deref.result.now) _ _ _
    (split c.args.campaign c.args.image.now c.args.inputs.now _ _ _ _ c.in-Some.ensures.order ends)
    (ap (λ n. c.blocks-2.done + n) (sym (block_length c.args.campaign c.args.image.now c.args.inputs.now _ _ _ ends)))
    c.blocks-2.invariant.0 _ c.in-Some-first_failing.ensures in
    first_of_failed c.args.campaign.expect.exit c.args.campaign c.args.image.now c.args.inputs.now c.args.campaign.form _ _ _ _
    c.in_ok-answer.ensures h.done _ h.order h.counting h.found _ refl

pub overflow_add-done : goal.overflow_add-done
overflow_add-done g c =
    let h = number_fits c.args.campaign.expect.exit c.args.campaign c.args.image.now c.args.inputs.now _ _ _ _ c.in-Some.block.count
    c.blocks-2.invariant.0 (split c.args.campaign c.args.image.now c.args.inputs.now _ _ _ _ c.in-Some.ensures.order c.in_ok-ends.ensures)
    (block_length c.args.campaign c.args.image.now c.args.inputs.now _ _ _ c.in_ok-ends.ensures) c.see_count.ensures in
    omega (arith, h)

pub blocks-2-smaller : goal.blocks-2-smaller
blocks-2-smaller g c = fewer c.in-Some.block.first c.in-Some.block.count _ _ c.in-Some.ensures.order c.in-Some.ensures.block.0

pub blocks-2-preserved : goal.blocks-2-preserved
blocks-2-preserved g c =
    let ends = ap (map seed_ending) c.deref.ensures.value ∙ c.in_ok-ends.ensures in (
      none_in_block c.args.campaign.expect.exit _ _ (map seed_ending c.deref.result.now) _ _ _
          (split c.args.campaign c.args.image.now c.args.inputs.now _ _ _ _ c.in-Some.ensures.order ends)
          (ap (λ n. c.blocks-2.done + n) (sym (block_length c.args.campaign c.args.image.now c.args.inputs.now _ _ _ ends)))
          c.blocks-2.invariant.0 c.in_default-first_failing.ensures,
      λ never. c.in-Some.ensures.still (c.blocks-2.invariant.1 never),
    )

pub returns-clause-found : goal.returns-clause-found
returns-clause-found g c =
    let h = c.blocks-2.invariant.0 in
    told_of_first c.args.campaign.expect.exit c.args.campaign c.args.image.now c.args.inputs.now c.args.campaign.form _ _ _ _
    (ended_without c.args.campaign.expect.exit c.args.campaign.form _ _ _ c.new.ensures.bytes
    (c.without_failure.ensures c.args.campaign.form c.args.campaign.expect.exit)) h.done _ h.order h.counting h.none

pub returns-clause-seeds : goal.returns-clause-seeds
returns-clause-seeds g c =
    let h = c.blocks-2.invariant.0 in
    seeds_within c.args.campaign.expect.exit c.args.campaign c.args.image.now c.args.inputs.now c.args.campaign.form _ _ _ _
    (ended_without c.args.campaign.expect.exit c.args.campaign.form _ _ _ c.new.ensures.bytes
    (c.without_failure.ensures c.args.campaign.form c.args.campaign.expect.exit)) h.done _ h.order h.counting h.none

pub returns-clause-first : goal.returns-clause-first
returns-clause-first g c = λ never.
    let h = c.blocks-2.invariant.0 in
    first_of_none c.args.campaign.expect.exit c.args.campaign c.args.image.now c.args.inputs.now c.args.campaign.form _ _ _ _
    (ended_without c.args.campaign.expect.exit c.args.campaign.form _ _ _ c.new.ensures.bytes
    (c.without_failure.ensures c.args.campaign.form c.args.campaign.expect.exit)) h.done _ h.order h.counting h.none refl
    (endings_none c.args.campaign c.args.image.now c.args.inputs.now _ (c.in_default.ensures.order (c.blocks-2.invariant.1 never)))
