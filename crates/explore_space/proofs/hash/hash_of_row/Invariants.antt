use Rattle.std.proofs.Common.{◌≡◌, ◌≤◌, length}
use Rattle.std.specs.List.{slice_index}
use Rattle.explore_space.specs.Hashes.{hash_row}
use Rattle.explore_space.proofs.hash.hash_of_row.Given as goal

-- the hash of those so far
abbrev pub invariant-words : goal.invariant-words
invariant-words l = (l.hash ≡ hash_row l.start (slice_index l.row) l.word-index) × (l.word-index ≤ length l.row)
