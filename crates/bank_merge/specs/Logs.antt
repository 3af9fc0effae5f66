-- The logs of all harts and of all banks of one program.
use Rattle.std.specs.Prelude.{◌≡◌, ℕ, List, [], Some, length, map, slice_get, slice_index_or}
use Rattle.image.specs.Image.{ImageValue}
use Rattle.bank_laws.specs.declared.access.LoggedAccess.{LoggedAccess}
use Rattle.bank_laws.specs.Segments.{LoggedSegment}
use Rattle.bank_laws.specs.Order.{Rises, Earlier}
use Rattle.bank_laws.specs.Merged.{most_banks}
use Rattle.bank_order.specs.Weaving.{log_of}
use Rattle.bank_hart_log.specs.HartLog.{HartLogValue}
use Rattle.bank_memory.specs.BankLog.{BankLog}

-- the segments of each hart
abbrev pub segments_of_all : List HartLogValue → List (List LoggedSegment)
segments_of_all logs = map (λ l. l.log) logs

-- the segments of hart h, empty past the last hart
abbrev pub hart_log : List HartLogValue → ℕ → List LoggedSegment
hart_log logs h = log_of (segments_of_all logs) h

-- the accesses of bank b, empty past the last bank
abbrev pub bank_log : List BankLog → ℕ → List LoggedAccess
bank_log banks b = slice_index_or (map (λ k. k.log) banks) b []

-- the bank at each place has its number
abbrev pub AreNumbered : List BankLog → Type 0
AreNumbered banks = (b : ℕ) (k : BankLog) → slice_get banks b ≡ Some k → k.number ≡ b

-- the log of hart h of a program
pub record IsHartOf (image : ImageValue) (inputs : List ℕ) (h : ℕ) (l : HartLogValue) : Type 0 where
  pub same_image : l.image ≡ image
  pub same_inputs : l.inputs ≡ inputs
  pub number : l.hart ≡ h

-- bank b of a program
pub record IsBankOf (image : ImageValue) (inputs : List ℕ) (b : ℕ) (k : BankLog) : Type 0 where
  pub same_image : k.image ≡ image
  pub same_inputs : k.inputs ≡ inputs
  pub number : k.number ≡ b

-- logs and banks are those of a program: each hart and each of the sixteen banks once and in order
pub record AreOf (image : ImageValue) (inputs : List ℕ) (logs : List HartLogValue) (banks : List BankLog) : Type 0 where
  pub harts : length logs ≡ length inputs
  pub sixteen : length banks ≡ most_banks
  pub of_harts : (h : ℕ) (l : HartLogValue) → slice_get logs h ≡ Some l → IsHartOf image inputs h l
  pub of_banks : (b : ℕ) (k : BankLog) → slice_get banks b ≡ Some k → IsBankOf image inputs b k

-- logs and banks are those of some program
pub record AreOfOne (logs : List HartLogValue) (banks : List BankLog) : Type 0 where
  pub image : ImageValue
  pub inputs : List ℕ
  pub are : AreOf image inputs logs banks

-- in the log of each hart stamps rise
abbrev pub StampsRise : List HartLogValue → Type 0
StampsRise logs = (h : ℕ) → Rises Earlier (hart_log logs h)
