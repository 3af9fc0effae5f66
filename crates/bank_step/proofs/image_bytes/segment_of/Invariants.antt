use Rattle.std.proofs.Common.{◌≡◌, ℕ, ◌+◌, ◌<◌, drop}
use Rattle.mem_store.specs.Image.{segment_at}
use Rattle.bank_step.proofs.image_bytes.segment_of.Given as goal

-- no segment before has any of the bytes
abbrev pub invariant-segments : goal.invariant-segments
invariant-segments g l = (k : ℕ) → k < l.count → segment_at (drop l.segment-index l.segments) (l.address + k) ≡ segment_at l.segments (l.address + k)
