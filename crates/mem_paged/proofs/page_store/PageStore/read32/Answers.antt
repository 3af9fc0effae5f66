use Rattle.std.proofs.Common.{arith}
use Rattle.mem_paged.proofs.AccessLemmas.{given, refused}
use Rattle.mem_paged.proofs.page_store.PageStore.read32.Goals as goal

pub returns-then-not-grants : goal.returns-then-not-grants
returns-then-not-grants g c =
    refused c.args.self.now c.args.address c.in_ok-place.place _ c.deref.ensures c.in_ok-place.ensures.value c.in_ok-place.ensures.inside 4 _ _ _ _
    c.deref-2.ensures c.index.ensures (omega arith) c.grants.ensures c.if-not-grants.true

pub returns : goal.returns
returns g c =
    given c.args.self.now c.args.address c.in_ok-place.place _ c.deref.ensures c.in_ok-place.ensures.value c.in_ok-place.ensures.inside 4 _ _ _ _ _ c.page.result.now _
    c.deref-2.ensures c.index.ensures c.page.ensures c.deref-3.ensures (omega arith) c.grants.ensures c.if-not-grants.false c.read32.ensures
