use Rattle.mem_paged.proofs.RightLemmas.{first_grants}
use Rattle.mem_paged.proofs.page_rights.PageRights.grants.Goals as goal

pub returns : goal.returns
returns g c =
    first_grants c.args.self.now.spans.items _ _ c.args.at c.args.count c.args.wanted.0 _ _ c.deref.ensures.value c.in-Some.ensures.value c.has_all.ensures c.if-not-has_all.false
    c.grants.ensures
