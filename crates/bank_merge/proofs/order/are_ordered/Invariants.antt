use Rattle.std.proofs.Common.{ℕ, ◌<◌}
use Rattle.bank_laws.specs.Segments.{accesses}
use Rattle.bank_merge.specs.AccessOrder.{bank_logs, own_log, hart_segments, IsOrdered}
use Rattle.bank_merge.proofs.order.are_ordered.Given as goal

-- the accesses of the harts so far are in order
abbrev pub invariant-logs : goal.invariant-logs
invariant-logs g l = (h : ℕ) → h < l.hart → IsOrdered (bank_logs l.banks) h (accesses (own_log (hart_segments l.logs) h))
