use Rattle.std.proofs.Common.{◌≡◌, take}
use Rattle.mem_flat.proofs.building.copies_of.Given as goal

abbrev pub invariant-each : goal.invariant-each
invariant-each g l = l.copies.items ≡ take l.block-index l.blocks
