use Rattle.std.proofs.Common.{◌≡◌, take, map}
use Rattle.mem_flat.specs.Blocks.{filled}
use Rattle.mem_flat.proofs.building.filled_blocks.Given as goal

abbrev pub invariant-each : goal.invariant-each
invariant-each g l = l.blocks.items ≡ map filled (take l.segment-index l.segments)
