use Rattle.std.proofs.Common.{◌≡◌, ℕ, ◌<◌, Some}
use Rattle.std.specs.Prelude.{slice_get}
use Rattle.bank_hart_log.specs.HartLog.{HartLogValue, IsOfHart}
use Rattle.bank_merge.proofs.seen.see_harts.Given as goal

-- those that were read keep it
abbrev pub invariant-logs : goal.invariant-logs
invariant-logs g l = (k : ℕ) (x : HartLogValue) → k < l.log-index → slice_get l.logs k ≡ Some x → IsOfHart x
