use Rattle.std.proofs.Common.{◌≡◌, ℕ, get_or}
use Rattle.mem_paged.specs.Runs.{byte_of_run}
use Rattle.mem_paged.proofs.page.Page.fill.Given as goal

abbrev pub invariant-bytes : goal.invariant-bytes
invariant-bytes l = (o : ℕ) → get_or l.self.bytes o 0 ≡ byte_of_run l.at l.k l.bytes l.first (get_or l.fn.self.bytes o 0) o
