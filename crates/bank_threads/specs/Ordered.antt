-- Logs of a run whose accesses the banks' logs have in the same order.
use Rattle.std.specs.Prelude.{◌≡◌, ℕ, List, Some, length, slice_get}
use Rattle.image.specs.Image.{ImageValue}
use Rattle.bank_laws.specs.declared.access.LoggedAccess.{LoggedAccess}
use Rattle.bank_laws.specs.Segments.{accesses}
use Rattle.bank_merge.specs.AccessOrder.{IsOrdered}
use Rattle.bank_hart_log.specs.HartLog.{HartLogValue}
use Rattle.bank_threads.specs.Banked.{IsHartOfRun}

-- a log is that of hart h of a run, and the banks' logs have its accesses in its own order
abbrev pub IsOrderedHart : ImageValue → List ℕ → ℕ → List (ℕ × ℕ) → List (List LoggedAccess) → ℕ → HartLogValue → Type 0
IsOrderedHart image inputs budget plan banks h l = IsHartOfRun image inputs budget plan h l × IsOrdered banks h (accesses l.log)

-- logs are those of all harts of a run, each once and in order, and ordered in this way
abbrev pub AreOrderedHarts : ImageValue → List ℕ → ℕ → List (ℕ × ℕ) → List (List LoggedAccess) → List HartLogValue → Type 0
AreOrderedHarts image inputs budget plan banks logs = (length logs ≡ length inputs)
    × ((h : ℕ) (l : HartLogValue) → slice_get logs h ≡ Some l → IsOrderedHart image inputs budget plan banks h l)
