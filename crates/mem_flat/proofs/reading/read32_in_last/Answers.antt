use Rattle.std.proofs.Common.{arith}
use Rattle.mem_flat.proofs.OrderLemmas.{inside_block}
use Rattle.mem_flat.proofs.ReadLemmas.{given_around}
use Rattle.mem_flat.proofs.reading.read32_in_last.Goals as goal

pub read32-requires : goal.read32-requires
read32-requires g c = omega (arith, inside_block _ _ 4 _ _ _ c.in_ok-i.ensures c.index-blocks-i.is)

pub returns-then-grants : goal.returns-then-grants
returns-then-grants g c = given_around _ _ 3 _ _ _ _ _ _ c.requires c.in_ok-i.ensures c.index-blocks-i.is c.grants.ensures c.if-grants.true c.read32.ensures
