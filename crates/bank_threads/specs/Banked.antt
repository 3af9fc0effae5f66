-- The result of a run of threads over banks.
use Rattle.std.specs.Prelude.{◌≡◌, ℕ, ◌%◌, List, Some, length, slice_get}
use Rattle.image.specs.Image.{ImageValue}
use Rattle.bank_laws.specs.Order.{Rises, Earlier}
use Rattle.bank_laws.specs.Merged.{most_banks}
use Rattle.bank_merge.specs.Logs.{IsBankOf}
use Rattle.bank_merge.specs.Merge.{AreMatched}
use Rattle.bank_memory.specs.BankLog.{BankLog}
use Rattle.bank_hart_log.specs.HartLog.{HartLogValue}
use Rattle.bank_worker.specs.Worked.{LogHasEnded, LogIsFlagged}

-- a log is hart h's of a run: its program and inputs, ended, the plan's refusals, rising stamps
pub record IsHartOfRun (image : ImageValue) (inputs : List ℕ) (budget : ℕ) (plan : List (ℕ × ℕ)) (h : ℕ) (l : HartLogValue) : Type 0 where
  pub same_image : l.image ≡ image
  pub same_inputs : l.inputs ≡ inputs
  pub number : l.hart ≡ h
  pub ended : LogHasEnded budget l
  pub flagged : LogIsFlagged plan h 0 l.log
  pub rising : Rises Earlier l.log

-- the result of a run of a program with a word-aligned entry: the log of each hart and each bank,
-- once and in order, where an access is in its hart's log exactly if it is in its word's bank
pub record IsBanked (image : ImageValue) (inputs : List ℕ) (budget : ℕ) (plan : List (ℕ × ℕ)) (logs : List HartLogValue) (banks : List BankLog) : Type 0 where
  pub entry : image.entry % 4 ≡ 0
  pub harts : length logs ≡ length inputs
  pub sixteen : length banks ≡ most_banks
  pub of_harts : (h : ℕ) (l : HartLogValue) → slice_get logs h ≡ Some l → IsHartOfRun image inputs budget plan h l
  pub of_banks : (b : ℕ) (k : BankLog) → slice_get banks b ≡ Some k → IsBankOf image inputs b k
  pub matched : AreMatched logs banks
