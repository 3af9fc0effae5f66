-- The order of segments and of accesses, and logs that match.
use Rattle.std.specs.Prelude.{◌≡◌, ℕ, ◌<◌, Bool, true, false, List, [], ◌∷◌, ◌⊎◌}
use Rattle.std.specs.List.{AllByRecursion}
use Rattle.bank_laws.specs.declared.access.LoggedAccess.{LoggedAccess}
use Rattle.bank_laws.specs.declared.access.LoggedKind.{LoggedKind}
use Rattle.bank_laws.specs.declared.access.LoggedKind.TheVariants.{CodeRead, Load, Store, LoadReserved, ConditionalStored, ConditionalFailed}
use Rattle.bank_laws.specs.Banks.{BankState, IsLogged}
use Rattle.bank_laws.specs.Runs.{StepTable}
use Rattle.bank_laws.specs.Segments.{LoggedSegment, HartSlot, Walks, accesses}

-- a is an element of the list
abbrev pub In : {A : Type 0} → A → List A → Type 0
In a [] = ⊥
In a (x ∷ xs) = (a ≡ x) ⊎ In a xs

-- each element is related to all later ones
abbrev pub Rises : {A : Type 0} → (A → A → Type 0) → List A → Type 0
Rises R [] = Unit {0}
Rises R (x ∷ xs) = AllByRecursion (R x) xs × Rises R xs

-- whether an access fetches an instruction
abbrev pub is_code_read : LoggedKind → Bool
is_code_read CodeRead = true
is_code_read Load = false
is_code_read Store = false
is_code_read LoadReserved = false
is_code_read ConditionalStored = false
is_code_read ConditionalFailed = false

-- in a bank stamps never fall, and only a code read and the data access of its step share one
abbrev pub Before : LoggedAccess → LoggedAccess → Type 0
Before a c = (a.stamp < c.stamp)
    ⊎ ((a.stamp ≡ c.stamp) × (a.hart ≡ c.hart) × (is_code_read a.kind ≡ true) × (is_code_read c.kind ≡ false))

-- ordered by stamp
abbrev pub Earlier : LoggedSegment → LoggedSegment → Type 0
Earlier e f = e.stamp < f.stamp

-- ordered by stamp, then by hart number
abbrev pub Ahead : LoggedSegment → LoggedSegment → Type 0
Ahead e f = (e.stamp < f.stamp) ⊎ ((e.stamp ≡ f.stamp) × (e.hart < f.hart))

-- a list has the segments of all logs, in their order
pub record IsMerged (logs : ℕ → List LoggedSegment) (es : List LoggedSegment) : Type 0 where
  pub order : Rises Ahead es
  pub taken : (e : LoggedSegment) → In e es → In e (logs e.hart)
  pub complete : (h : ℕ) (e : LoggedSegment) → In e (logs h) → In e es

-- an access is in a hart's log exactly if it is in its bank's
pub record IsMatched (bank_of : ℕ → ℕ) (logs : ℕ → List LoggedSegment) (banks : ℕ → List LoggedAccess) : Type 0 where
  pub in_bank : (h : ℕ) (a : LoggedAccess) → In a (accesses (logs h)) → In a (banks (bank_of a.word))
  pub in_log : (b : ℕ) (a : LoggedAccess) → In a (banks b) → (h : ℕ) × In a (accesses (logs h))

-- each log alone: a hart's has its own segments, which are a walk; a bank's has accesses to its own
-- words, in order, each of which finds what the ones before left
pub record AreLogs {H : Type 0} (bank_of : ℕ → ℕ) (T : StepTable H) (slots ends : ℕ → HartSlot H) (start : ℕ → BankState) (logs : ℕ → List LoggedSegment) (banks : ℕ → List LoggedAccess) : Type 0 where
  pub own : (h : ℕ) → AllByRecursion (λ e. e.hart ≡ h) (logs h)
  pub walks : (h : ℕ) → Walks T (slots h) (logs h) (ends h)
  pub of_bank : (b : ℕ) → AllByRecursion (λ a. bank_of a.word ≡ b) (banks b)
  pub order : (b : ℕ) → Rises Before (banks b)
  pub logged : (b : ℕ) → IsLogged (start b) (banks b)
