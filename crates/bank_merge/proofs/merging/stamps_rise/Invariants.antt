use Rattle.std.proofs.Common.{ℕ, ◌<◌}
use Rattle.bank_laws.specs.Order.{Rises, Earlier}
use Rattle.bank_merge.specs.Logs.{hart_log}
use Rattle.bank_merge.proofs.merging.stamps_rise.Given as goal

-- the stamps of the harts so far rise
abbrev pub invariant-logs : goal.invariant-logs
invariant-logs g l = (h : ℕ) → h < l.log-index → Rises Earlier (hart_log l.logs h)
