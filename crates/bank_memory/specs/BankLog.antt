-- A bank as a log over the words of an image.
use Rattle.std.specs.Prelude.{◌≡◌, ℕ, ◌%◌, ◌<◌, true, List, [], ◌∷◌, ◌++◌, length}
use Rattle.std.specs.List.{AllByRecursion}
use Rattle.image.specs.Image.{ImageValue}
use Rattle.bank_laws.specs.declared.access.LoggedAccess.{LoggedAccess}
use Rattle.bank_laws.specs.Banks.{BankState, after_log, Finds, IsLogged}
use Rattle.bank_laws.specs.Order.{Rises, Before}
use Rattle.bank_laws.specs.Merged.{bank_of, first_bank}
use Rattle.bank_memory.specs.Rising.{may_follow}
use Rattle.bank_memory.specs.declared.bank.AddFault.{AddFault}
use Rattle.bank_memory.specs.declared.bank.AddFault.TheVariants.{Mismatch, Memory}

-- the program with its inputs, one per hart; the bank's number, and the accesses to its words
pub record BankLog : Type 0 where
  pub image : ImageValue
  pub inputs : List ℕ
  pub number : ℕ
  pub log : List LoggedAccess

-- the words and marks after the log
abbrev pub state_of : BankLog → BankState
state_of b = after_log (first_bank b.image) b.log

-- an access may come next: it is to a word of the bank, by one of the program's harts, has found
-- what the bank has, and comes after all accesses before it
pub record FitsBank (b : BankLog) (a : LoggedAccess) : Type 0 where
  pub word : a.word % 4 ≡ 0
  pub bank : bank_of a.word ≡ b.number
  pub hart : a.hart < length b.inputs
  pub finds : Finds (state_of b) a
  pub follows : may_follow b.log a ≡ true

-- the bank with one more access
abbrev pub bank_with_access : BankLog → LoggedAccess → BankLog
bank_with_access b a = record b { log = b.log ++ a ∷ [] }

-- why an access is not logged
abbrev pub RefusesAccess : BankLog → LoggedAccess → AddFault → Type 0
RefusesAccess b a Mismatch = FitsBank b a → ⊥
RefusesAccess b a Memory = FitsBank b a

-- the program's entry is word-aligned; all accesses are to words of the bank, in order, and each has
-- found what those before it left
pub record IsOfBank (b : BankLog) : Type 0 where
  pub entry : b.image.entry % 4 ≡ 0
  pub of_bank : AllByRecursion (λ a. bank_of a.word ≡ b.number) b.log
  pub order : Rises Before b.log
  pub logged : IsLogged (first_bank b.image) b.log
