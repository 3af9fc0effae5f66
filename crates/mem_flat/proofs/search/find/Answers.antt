use Rattle.std.proofs.Common.{arith}
use Rattle.mem_flat.proofs.OrderLemmas.{goes_down, goes_up, stands_there, nowhere}
use Rattle.mem_flat.proofs.search.find.Goals as goal

pub halves-preserved-then-address-base : goal.halves-preserved-then-address-base
halves-preserved-then-address-base g c =
    (omega arith, omega arith, goes_down _ _ _ c.halves.high _ _ c.requires c.halves.invariant.2 (omega arith) c.index-blocks-middle.is (omega (arith, c.if-address-base.true, c.base-base.ensures)))

pub returns-then-address-base-2 : goal.returns-then-address-base-2
returns-then-address-base-2 g c =
    stands_there _ _ _ c.base-base.result c.size.result _ (omega arith) c.index-blocks-middle.is c.base-base.ensures c.size.ensures.value c.if-address-base.false c.if-address-base-2.true

pub halves-preserved : goal.halves-preserved
halves-preserved g c =
    (omega arith, omega arith, goes_up _ _ c.halves.low _ _ _ c.requires c.halves.invariant.2 (omega arith) c.index-blocks-middle.is (omega (arith, c.if-address-base-2.false, c.if-address-base.false, c.base-base.ensures, c.size.ensures.value)))

pub returns : goal.returns
returns g c = nowhere _ _ _ _ (omega arith) c.halves.invariant.2
