use Rattle.std.proofs.Common.{◌≡◌, ◌+◌, true}
use Rattle.mem_store.specs.Memory.{grants, all_below}
use Rattle.mem_paged.specs.Pages.{right_at}
use Rattle.mem_paged.proofs.page_rights.PageRights.each_grants.Given as goal

abbrev pub invariant-bytes : goal.invariant-bytes
invariant-bytes g l = all_below l.k (λ j. grants l.wanted.0 (right_at l.self.spans.items (l.at + j))) ≡ true
