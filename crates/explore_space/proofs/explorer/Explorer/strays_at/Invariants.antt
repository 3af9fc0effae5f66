use Rattle.std.proofs.Common.{◌≡◌, false, length}
use Rattle.explore_space.specs.Failing.{one_strays}
use Rattle.explore_space.specs.Habits.{owners_in}
use Rattle.explore_space.specs.Places.{world_of_key}
use Rattle.explore_space.proofs.explorer.Explorer.strays_at.Given as goal

-- the harts before this one don't stray
abbrev pub invariant-harts : goal.invariant-harts
invariant-harts g l =
    one_strays (owners_in l.self.known.code.now.words.items) (world_of_key l.self.known.image.now (length l.self.inputs.now)
    l.self.known.harts.parts.items l.self.known.shareds.parts.items l.key) l.number ≡ false
