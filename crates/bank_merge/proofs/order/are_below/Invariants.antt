use Rattle.std.proofs.Common.{◌<◌, drop}
use Rattle.std.specs.Prelude.{◌↔◌}
use Rattle.std.specs.List.{AllByRecursion}
use Rattle.bank_merge.proofs.order.are_below.Given as goal

-- all are exactly where those that are left are
abbrev pub invariant-accesses : goal.invariant-accesses
invariant-accesses l = AllByRecursion (λ a. a.hart < l.harts) (drop l.access-index l.log) ↔ AllByRecursion (λ a. a.hart < l.harts) l.log
