use Rattle.std.proofs.Common.{arith}
use Rattle.mem_paged.proofs.AccessLemmas.{granted_is}
use Rattle.mem_paged.proofs.page_store.PageStore.may_write32.Goals as goal

pub returns-in-Some : goal.returns-in-Some
returns-in-Some g c =
    granted_is c.args.self.now c.args.address c.in-Some.place _ c.deref.ensures c.in-Some.ensures.value c.in-Some.ensures.inside 4 _ _ _ _
    c.deref-in-Some.ensures c.index.ensures (omega arith) c.grants.ensures
