use Rattle.std.proofs.Common.{◌∙◌, arith}
use Rattle.mem_flat.proofs.OrderLemmas.{inside_block}
use Rattle.mem_flat.proofs.ReadLemmas.{peeked_one, peeked_none}
use Rattle.mem_flat.proofs.reading.peek.Goals as goal

pub returns-in_err-i : goal.returns-in_err-i
returns-in_err-i g c = c.from_residual.ensures ∙ peeked_none _ _ c.in_err-i.ensures

pub byte-requires : goal.byte-requires
byte-requires g c = omega (arith, inside_block _ _ 1 _ _ _ c.in_ok-i.ensures c.index-blocks-i.is)

pub returns : goal.returns
returns g c = peeked_one _ _ _ _ _ _ c.requires c.in_ok-i.ensures c.index-blocks-i.is c.byte.ensures
