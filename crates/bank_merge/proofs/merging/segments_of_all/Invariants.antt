use Rattle.std.proofs.Common.{◌≡◌, ◌++◌, drop}
use Rattle.bank_order.specs.Logs.{segment_logs}
use Rattle.bank_merge.specs.Logs.{segments_of_all}
use Rattle.bank_merge.proofs.merging.segments_of_all.Given as goal

-- those so far, and the logs that are left
abbrev pub invariant-logs : goal.invariant-logs
invariant-logs g l = segment_logs l.all.items ++ segments_of_all (drop l.log-index l.logs) ≡ segments_of_all l.logs
