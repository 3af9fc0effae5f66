use Rattle.std.proofs.Common.{◌≡◌, ℕ, ◌<◌, [], drop, slice_index_or}
use Rattle.bank_merge.specs.AccessOrder.{log_at, bank_logs, of_hart}
use Rattle.bank_merge.proofs.places.are_passed.Given as goal

-- the banks so far have none
abbrev pub invariant-banks : goal.invariant-banks
invariant-banks g l = (b : ℕ) → b < l.bank → of_hart l.hart (drop (slice_index_or l.places b 0) (log_at (bank_logs l.banks) b)) ≡ []
