use Rattle.std.proofs.Common.{sym, ◌∙◌, ◌+◌}
use Rattle.mem_store.specs.Memory.{grants}
use Rattle.mem_flat.proofs.ReadLemmas.{all_below_fails}
use Rattle.mem_paged.specs.Pages.{right_at}
use Rattle.mem_paged.proofs.page_rights.PageRights.each_grants.Goals as goal

pub returns-then-not-grants_one : goal.returns-then-not-grants_one
returns-then-not-grants_one g c =
    sym (all_below_fails c.args.count c.bytes.k (λ j. grants c.args.wanted.0 (right_at c.args.self.now.spans.items (c.args.at + j))) c.bytes-test.true
    (sym c.grants_one.ensures ∙ c.if-not-grants_one.true))
