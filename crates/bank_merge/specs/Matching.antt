-- Accesses in sets and in lists, as tests.
use Rattle.std.specs.Prelude.{Bool, true, false, ◌&&◌, ◌||◌, List, [], ◌∷◌, ◌++◌}
use Rattle.std.specs.Ordering.{eq_by_cmp}
use Rattle.std.specs.declared.cmp.Ordering.{Ordering}
use Rattle.std.specs.BTreeSet as sorted
use Rattle.std.specs.BTreeSet.{BTreeSet}
use Rattle.bank_laws.specs.declared.access.LoggedAccess.{LoggedAccess}
use Rattle.bank_laws.specs.contracts.access.LoggedAccessOrd.TheImpl as access_ord
use Rattle.bank_laws.specs.Segments.{accesses}
use Rattle.bank_laws.specs.Order.{In}
use Rattle.bank_hart_log.specs.HartLog.{HartLogValue}
use Rattle.bank_memory.specs.BankLog.{BankLog}

-- the order of accesses in a set
abbrev pub access_cmp : LoggedAccess → LoggedAccess → Ordering
access_cmp = (access_ord.ghosts).cmp

-- whether a set has an access
abbrev pub has_access : BTreeSet LoggedAccess → LoggedAccess → Bool
has_access set a = sorted.contains access_cmp set a

-- whether a list has it
abbrev pub is_among : List LoggedAccess → LoggedAccess → Bool
is_among [] a = false
is_among (x ∷ xs) a = eq_by_cmp access_cmp x a || is_among xs a

-- whether a set has all of a list
abbrev pub are_in : BTreeSet LoggedAccess → List LoggedAccess → Bool
are_in set [] = true
are_in set (x ∷ xs) = has_access set x && are_in set xs

-- another list has all elements of a list
abbrev pub HasAllOf : List LoggedAccess → List LoggedAccess → Type 0
HasAllOf xs ys = (a : LoggedAccess) → In a xs → In a ys

-- the accesses of all banks
abbrev pub bank_accesses : List BankLog → List LoggedAccess
bank_accesses [] = []
bank_accesses (b ∷ banks) = b.log ++ bank_accesses banks

-- the accesses of all harts
abbrev pub hart_accesses : List HartLogValue → List LoggedAccess
hart_accesses [] = []
hart_accesses (l ∷ logs) = accesses l.log ++ hart_accesses logs
