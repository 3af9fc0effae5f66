use Rattle.std.proofs.Common.{◌≡◌, ◌++◌, drop}
use Rattle.bank_merge.proofs.matching.push_all.Given as goal

-- the list so far, and the accesses that are left
abbrev pub invariant-accesses : goal.invariant-accesses
invariant-accesses g l = l.list.items ++ drop l.access-index l.accesses ≡ l.initial.list.items ++ l.accesses
