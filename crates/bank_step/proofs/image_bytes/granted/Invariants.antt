use Rattle.std.proofs.Common.{◌≡◌, true}
use Rattle.mem_store.specs.Memory.{granted}
use Rattle.mem_store.specs.Image.{segments_memory}
use Rattle.bank_step.proofs.image_bytes.granted.Given as goal

abbrev pub invariant-bytes : goal.invariant-bytes
invariant-bytes g l = granted l.wanted.0 (segments_memory l.segments) l.k l.address ≡ true
