use Rattle.std.proofs.Common.{◌≡◌, drop}
use Rattle.bank_merge.specs.AccessOrder.{of_hart}
use Rattle.bank_merge.proofs.places.has_none.Given as goal

-- no access of the hart was passed
abbrev pub invariant-accesses : goal.invariant-accesses
invariant-accesses l = of_hart l.hart (drop l.place l.log) ≡ of_hart l.hart (drop l.from l.log)
