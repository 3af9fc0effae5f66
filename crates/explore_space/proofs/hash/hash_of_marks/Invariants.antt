use Rattle.std.proofs.Common.{◌≡◌}
use Rattle.hart_reservations.specs.Marks.{mark_at}
use Rattle.explore_space.specs.Hashes.{hash_of_marks}
use Rattle.explore_space.proofs.hash.hash_of_marks.Given as goal

-- the hash of those so far
abbrev pub invariant-harts : goal.invariant-harts
invariant-harts l = l.hash ≡ hash_of_marks l.start (mark_at l.marks) l.hart
