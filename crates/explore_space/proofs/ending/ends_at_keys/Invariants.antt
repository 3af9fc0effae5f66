use Rattle.std.proofs.Common.{take}
use Rattle.explore_space.specs.Ends.{AreEndsAt, ends_in}
use Rattle.explore_space.proofs.ending.ends_at_keys.Given as goal

-- the ends at the keys before this one are there
abbrev pub invariant-keys : goal.invariant-keys
invariant-keys g l = AreEndsAt l.rule l.inputs l.harts (take l.number l.keys) (ends_in l.ends)
