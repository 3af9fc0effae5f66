use Rattle.std.proofs.Common.{◌≡◌, drop}
use Rattle.std.specs.Prelude.{◌||◌}
use Rattle.bank_laws.specs.declared.access.LoggedAccess.{LoggedAccess}
use Rattle.bank_merge.specs.Matching.{has_access, is_among}
use Rattle.bank_merge.proofs.matching.set_of.Given as goal

-- what is left, or what the set has, is what it is to have
abbrev pub invariant-accesses : goal.invariant-accesses
invariant-accesses g l = (a : LoggedAccess) → (is_among (drop l.access-index l.accesses) a || has_access l.set a) ≡ is_among l.accesses a
