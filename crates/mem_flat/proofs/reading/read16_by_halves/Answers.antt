use Rattle.mem_flat.proofs.ReadLemmas.{given_number, refused_number}
use Rattle.mem_flat.proofs.reading.read16_by_halves.Goals as goal

pub returns-then-grants : goal.returns-then-grants
returns-then-grants g c = given_number _ _ 1 _ _ _ _ _ _ c.requires.order c.in-Some.ensures c.index-blocks-i.is c.grants.ensures c.if-grants.true c.read16.ensures

pub returns-else-grants : goal.returns-else-grants
returns-else-grants g c = refused_number _ _ 1 _ _ _ _ _ c.requires.order c.in-Some.ensures c.index-blocks-i.is c.grants.ensures c.if-grants.false
