use Rattle.std.proofs.Common.{◌≡◌, ◌≤◌, length}
use Rattle.std.specs.List.{slice_index}
use Rattle.explore_space.specs.Hashes.{hash_row}
use Rattle.explore_space.proofs.hash.hash_of_bytes.Given as goal

-- the hash of those so far
abbrev pub invariant-bytes : goal.invariant-bytes
invariant-bytes l = (l.hash ≡ hash_row l.start (slice_index l.bytes) l.byte-index) × (l.byte-index ≤ length l.bytes)
