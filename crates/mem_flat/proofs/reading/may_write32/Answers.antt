use Rattle.std.proofs.Common.{◌∙◌, sym}
use Rattle.mem_flat.proofs.ReadLemmas.{granted_here}
use Rattle.mem_flat.proofs.reading.may_write32.Goals as goal

pub returns-in-Some : goal.returns-in-Some
returns-in-Some g c = c.grants.ensures ∙ sym (granted_here _ _ 3 _ _ 2 _ c.requires.order c.in-Some.ensures c.index-blocks-i.is)
