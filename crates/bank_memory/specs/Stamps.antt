-- Stamps: they order the steps of all harts.
use Rattle.std.specs.Prelude.{ℕ, ◌≤◌, ◌+◌, ◌^◌, ◌-◌, nat_lt, List, [], ◌∷◌, Option, Some, None, if◌then◌else◌, length, slice_get}
use Rattle.std.specs.List.{AllByRecursion}
use Rattle.bank_laws.specs.declared.access.LoggedAccess.{LoggedAccess}
use Rattle.bank_laws.specs.Order.{In}

-- the greatest of a stamp and a list of stamps
abbrev pub greatest : ℕ → List ℕ → ℕ
greatest stamp [] = stamp
greatest stamp (s ∷ stamps) = greatest (if nat_lt stamp s then s else stamp) stamps

-- a stamp is one of a list, and none there is greater
pub record IsGreatest (stamps : List ℕ) (stamp : ℕ) : Type 0 where
  pub taken : In stamp stamps
  pub most : AllByRecursion (λ s. s ≤ stamp) stamps

-- one more than the greatest, below 2 ^ 64 - 1
abbrev pub next_stamp : ℕ → List ℕ → Option ℕ
next_stamp own banks =
    if nat_lt (greatest own banks + 1) (2 ^ 64 - 1) then Some (greatest own banks + 1) else None

-- the stamp of an access, 0 if there is none
abbrev pub access_stamp : Option LoggedAccess → ℕ
access_stamp None = 0
access_stamp (Some a) = a.stamp

-- the stamp of the last access, 0 if there is none
abbrev pub last_access_stamp : List LoggedAccess → ℕ
last_access_stamp log = access_stamp (slice_get log (length log - 1))
