use Rattle.std.proofs.Common.{rules}
use Rattle.std.proofs.lemmas.List.Sorted.{IsNonDecreasingBy-from_sort_by_key}
use Rattle.image.specs.Segment.{SegmentValue}
use Rattle.mem_flat.specs.Blocks.{IsInOrder}
use Rattle.mem_flat.proofs.BuildLemmas.{sorted_order, sorted_memory}
use Rattle.mem_flat.proofs.building.blocks_of.Goals as goal

pub returns-clause-order : goal.returns-clause-order
returns-clause-order g c =
    sorted_order c.args.image.now.entry c.args.image.now.segments _ _ c.in_ok-blocks.ensures.sound c.in_ok-blocks.ensures.made c.in_ok-sort_by_key.ensures.permutation
    (IsNonDecreasingBy-from_sort_by_key (λ (t : SegmentValue). t.base) _ c.in_ok-sort_by_key.ensures.sorted (λ a r q k. search rules))

pub returns-clause-memory : goal.returns-clause-memory
returns-clause-memory g c =
    let order : IsInOrder c.sort_by_key.new.self.items = returns-clause-order g c in
    sorted_memory c.args.image.now.segments _ _ c.in_ok-blocks.ensures.made c.in_ok-sort_by_key.ensures.permutation order
