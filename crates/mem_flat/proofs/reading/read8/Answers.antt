use Rattle.std.proofs.Common.{arith}
use Rattle.mem_flat.proofs.OrderLemmas.{inside_block}
use Rattle.mem_flat.proofs.ReadLemmas.{given_one, refused_one, refused_none}
use Rattle.mem_flat.proofs.reading.read8.Goals as goal

pub returns-in_err-i : goal.returns-in_err-i
returns-in_err-i g c = rw c.from_residual.ensures (refused_none _ _ _ c.in_err-i.ensures)

pub byte-requires : goal.byte-requires
byte-requires g c = omega (arith, inside_block _ _ 1 _ _ _ c.in_ok-i.ensures c.index-blocks-i.is)

pub returns-then-grants : goal.returns-then-grants
returns-then-grants g c = given_one _ _ _ _ _ _ _ _ c.requires c.in_ok-i.ensures c.index-blocks-i.is c.grants.ensures c.if-grants.true c.byte.ensures

pub returns-else-grants : goal.returns-else-grants
returns-else-grants g c = refused_one _ _ _ _ _ _ _ c.requires c.in_ok-i.ensures c.index-blocks-i.is c.grants.ensures c.if-grants.false
