use Rattle.std.proofs.Common.{◌≡◌, true}
use Rattle.mem_store.specs.Memory.{granted, to_write}
use Rattle.mem_store.specs.Image.{segments_memory}
use Rattle.mem_flat.proofs.reading.may_write.Given as goal

abbrev pub invariant-bytes : goal.invariant-bytes
invariant-bytes g l = granted to_write (segments_memory l.blocks) l.k l.address ≡ true
