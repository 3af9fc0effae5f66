use Rattle.std.proofs.Common.{◌-◌, ◌≤◌, length}
use Rattle.mem_flat.proofs.OrderLemmas.{NoneOutside}
use Rattle.mem_flat.proofs.search.find.Given as goal

abbrev pub invariant-halves : goal.invariant-halves
invariant-halves g l = (l.low ≤ l.high) × (l.high ≤ length l.blocks) × NoneOutside l.blocks l.address l.low l.high

abbrev pub decreases-halves : goal.decreases-halves
decreases-halves g l = l.high - l.low
