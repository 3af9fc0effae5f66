use Rattle.std.proofs.Common.{◌≡◌, ◌++◌, drop}
use Rattle.bank_merge.specs.Matching.{bank_accesses}
use Rattle.bank_merge.proofs.matching.of_banks.Given as goal

-- the list so far, and the accesses of the banks that are left
abbrev pub invariant-banks : goal.invariant-banks
invariant-banks g l = l.list.items ++ bank_accesses (drop l.bank-index l.banks) ≡ bank_accesses l.banks
