use Rattle.std.proofs.Common.{ap, get_or, arith}
use Rattle.std.proofs.lemmas.List.{set-get_or}
use Rattle.mem_flat.proofs.OrderLemmas.{inside_block}
use Rattle.mem_flat.proofs.WriteLemmas.{puts_here, stays_here, order_after, order_stays}
use Rattle.mem_flat.proofs.writing.put32_by_halves.Goals as goal

pub returns-then-not-grants-clause-puts : goal.returns-then-not-grants-clause-puts
returns-then-not-grants-clause-puts g c =
    stays_here _ _ _ 3 _ _ c.args.value _ _ c.requires.order c.in-Some.ensures (ap (get_or c.args.blocks.now c.in-Some.i) c.index-blocks-i.is) c.grants.ensures c.if-not-grants.true (set-get_or _ _ _)

pub write32-requires : goal.write32-requires
write32-requires g c = omega (arith, inside_block _ _ 4 _ _ _ c.in-Some.ensures (ap (get_or c.args.blocks.now c.in-Some.i) c.index-blocks-i.is))

pub returns-clause-puts : goal.returns-clause-puts
returns-clause-puts g c =
    puts_here _ _ 3 _ _ _ _ _ _ c.requires.order c.in-Some.ensures (ap (get_or c.args.blocks.now c.in-Some.i) c.index-blocks-i.is) c.write32.ensures.whole c.write32.ensures.value c.grants.ensures c.if-not-grants.false

pub returns-then-not-grants-clause-order : goal.returns-then-not-grants-clause-order
returns-then-not-grants-clause-order g c = order_stays _ _ (set-get_or _ _ _) c.requires.order

pub returns-clause-order : goal.returns-clause-order
returns-clause-order g c =
    order_after _ _ 4 _ _ _ _ _ c.requires.order c.in-Some.ensures (ap (get_or c.args.blocks.now c.in-Some.i) c.index-blocks-i.is) c.write32.ensures.whole c.write32.ensures.value
