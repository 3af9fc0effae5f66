use Rattle.std.proofs.Common.{ap, get_or, arith}
use Rattle.std.proofs.lemmas.List.{set-get_or}
use Rattle.mem_flat.proofs.OrderLemmas.{inside_block}
use Rattle.mem_flat.proofs.WriteLemmas.{puts_here, stays_here, order_after, order_stays, stays_nowhere}
use Rattle.mem_flat.proofs.writing.put8.Goals as goal

pub returns-then-not-grants-clause-puts : goal.returns-then-not-grants-clause-puts
returns-then-not-grants-clause-puts g c =
    stays_here _ _ _ 0 _ _ c.args.value _ _ c.requires c.in-Some.ensures (ap (get_or c.args.blocks.now c.in-Some.i) c.index-blocks-i.is) c.grants.ensures c.if-not-grants.true (set-get_or _ _ _)

pub write8-requires : goal.write8-requires
write8-requires g c = omega (arith, inside_block _ _ 1 _ _ _ c.in-Some.ensures (ap (get_or c.args.blocks.now c.in-Some.i) c.index-blocks-i.is))

pub returns-clause-puts : goal.returns-clause-puts
returns-clause-puts g c =
    puts_here _ _ 0 _ _ _ _ _ _ c.requires c.in-Some.ensures (ap (get_or c.args.blocks.now c.in-Some.i) c.index-blocks-i.is) c.write8.ensures.whole c.write8.ensures.value c.grants.ensures c.if-not-grants.false

pub returns-in_default-clause-puts : goal.returns-in_default-clause-puts
returns-in_default-clause-puts g c = stays_nowhere _ _ c.args.value c.in_default.ensures

pub returns-then-not-grants-clause-order : goal.returns-then-not-grants-clause-order
returns-then-not-grants-clause-order g c = order_stays _ _ (set-get_or _ _ _) c.requires

pub returns-clause-order : goal.returns-clause-order
returns-clause-order g c =
    order_after _ _ 1 _ _ _ _ _ c.requires c.in-Some.ensures (ap (get_or c.args.blocks.now c.in-Some.i) c.index-blocks-i.is) c.write8.ensures.whole c.write8.ensures.value
