use Rattle.std.proofs.Common.{◌≡◌, ℕ, ◌<◌, Some}
use Rattle.std.specs.Prelude.{slice_get}
use Rattle.bank_memory.specs.BankLog.{BankLog, IsOfBank}
use Rattle.bank_merge.proofs.seen.see_banks.Given as goal

-- those that were read keep it
abbrev pub invariant-banks : goal.invariant-banks
invariant-banks g l = (k : ℕ) (x : BankLog) → k < l.bank-index → slice_get l.banks k ≡ Some x → IsOfBank x
