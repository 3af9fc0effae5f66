-- The accesses of harts in their own logs and in the banks', in the same order.
use Rattle.std.specs.Prelude.{◌≡◌, ◌↔◌, ℕ, ◌<◌, ◌==◌, Bool, true, false, List, [], ◌∷◌, ◌++◌, Option, Some, None, drop, length, map, slice_index_or}
use Rattle.std.specs.List.{AllByRecursion, filter}
use Rattle.bank_laws.specs.declared.access.LoggedAccess.{LoggedAccess}
use Rattle.bank_laws.specs.Banks.{share_of}
use Rattle.bank_laws.specs.Segments.{LoggedSegment, accesses}
use Rattle.bank_laws.specs.Merged.{bank_of, most_banks}
use Rattle.bank_memory.specs.BankLog.{BankLog}
use Rattle.bank_hart_log.specs.HartLog.{HartLogValue}

-- the log of each bank
abbrev pub bank_logs : List BankLog → List (List LoggedAccess)
bank_logs banks = map (λ k. k.log) banks

-- the segments of each hart
abbrev pub hart_segments : List HartLogValue → List (List LoggedSegment)
hart_segments logs = map (λ l. l.log) logs

-- the log of bank b, which is empty past the last bank
abbrev pub log_at : List (List LoggedAccess) → ℕ → List LoggedAccess
log_at banks b = slice_index_or banks b []

-- the segments of hart h, empty past the last hart
abbrev pub own_log : List (List LoggedSegment) → ℕ → List LoggedSegment
own_log harts h = slice_index_or harts h []

-- the accesses of hart h
abbrev pub of_hart : ℕ → List LoggedAccess → List LoggedAccess
of_hart h log = filter (λ a. a.hart == h) log

-- from these places on, each bank's log has those of these accesses of hart h that are its own
abbrev pub AreLeft : List (List LoggedAccess) → ℕ → List ℕ → List LoggedAccess → Type 0
AreLeft banks h places xs = (b : ℕ) → b < most_banks
    → of_hart h (drop (slice_index_or places b 0) (log_at banks b)) ≡ share_of bank_of b xs

-- each bank's log has those of these accesses of hart h that are to its words, in order
abbrev pub IsOrdered : List (List LoggedAccess) → ℕ → List LoggedAccess → Type 0
IsOrdered banks h xs = (b : ℕ) → b < most_banks → of_hart h (log_at banks b) ≡ share_of bank_of b xs

-- all accesses are of harts below a number
abbrev pub HaveNoOthers : List (List LoggedAccess) → ℕ → Type 0
HaveNoOthers banks harts = (b : ℕ) → b < most_banks → AllByRecursion (λ a. a.hart < harts) (log_at banks b)

-- the banks' logs have the accesses of each hart's log, in order, and no others
pub record AreOrdered (harts : List (List LoggedSegment)) (banks : List (List LoggedAccess)) : Type 0 where
  pub each : (h : ℕ) → h < length harts → IsOrdered banks h (accesses (own_log harts h))
  pub no_others : HaveNoOthers banks (length harts)

-- the place after an access, if that is the first of hart h from a place on
abbrev pub IsBehind : List LoggedAccess → ℕ → ℕ → LoggedAccess → Option ℕ → Type 0
IsBehind log h from a None = (xs : List LoggedAccess) → of_hart h (drop from log) ≡ a ∷ xs → ⊥
IsBehind log h from a (Some place) = of_hart h (drop from log) ≡ a ∷ of_hart h (drop place log)

-- accesses are the next of hart h, and the places move past them, or they aren't
abbrev pub Passes : List (List LoggedAccess) → ℕ → List ℕ → List ℕ → List LoggedAccess → Bool → Type 0
Passes banks h old new xs true = (rest : List LoggedAccess) → AreLeft banks h old (xs ++ rest) ↔ AreLeft banks h new rest
Passes banks h old new xs false = (rest : List LoggedAccess) → AreLeft banks h old (xs ++ rest) → ⊥
