use Rattle.std.proofs.Common.{◌≡◌, drop}
use Rattle.bank_merge.specs.Matching.{are_in}
use Rattle.bank_merge.proofs.matching.are_in.Given as goal

-- what the accesses that are left give is what all give
abbrev pub invariant-accesses : goal.invariant-accesses
invariant-accesses g l = are_in l.set (drop l.access-index l.accesses) ≡ are_in l.set l.accesses
