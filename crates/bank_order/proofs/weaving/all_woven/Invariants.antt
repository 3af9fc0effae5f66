use Rattle.std.proofs.Common.{◌≡◌, drop, []}
use Rattle.bank_order.specs.Weaving.{woven_with}
use Rattle.bank_order.specs.Logs.{segment_logs, borrowed_segments}
use Rattle.bank_order.proofs.weaving.all_woven.Given as goal

-- what is woven so far, and the logs that are left
abbrev pub invariant-logs : goal.invariant-logs
invariant-logs g l = woven_with (borrowed_segments l.out.items) (segment_logs (drop l.log-index l.logs)) ≡ woven_with [] (segment_logs l.logs)
