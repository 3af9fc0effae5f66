use Rattle.std.proofs.Common.{◌≡◌, ◌++◌, drop}
use Rattle.bank_merge.specs.Matching.{hart_accesses}
use Rattle.bank_merge.proofs.matching.of_harts.Given as goal

-- the list so far, and the accesses of the logs that are left
abbrev pub invariant-logs : goal.invariant-logs
invariant-logs g l = l.list.items ++ hart_accesses (drop l.log-index l.logs) ≡ hart_accesses l.logs
