use Rattle.std.proofs.Common.{◌≡◌, drop}
use Rattle.bank_memory.specs.Stamps.{greatest}
use Rattle.bank_memory.proofs.stamp.greatest.Given as goal

-- the greatest so far, and the stamps that are left
abbrev pub invariant-banks : goal.invariant-banks
invariant-banks l = greatest l.greatest (drop l.stamp-index l.banks) ≡ greatest l.own l.banks
