use Rattle.std.proofs.Common.{ℕ, ◌<◌}
use Rattle.std.specs.List.{AllByRecursion}
use Rattle.bank_merge.specs.AccessOrder.{log_at, bank_logs}
use Rattle.bank_merge.proofs.order.have_no_others.Given as goal

-- the banks so far have none
abbrev pub invariant-banks : goal.invariant-banks
invariant-banks g l = (b : ℕ) → b < l.bank → AllByRecursion (λ a. a.hart < l.harts) (log_at (bank_logs l.banks) b)
