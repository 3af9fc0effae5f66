use Rattle.std.proofs.Common.{◌≡◌, drop}
use Rattle.explore_space.specs.Habits.{owners_in}
use Rattle.explore_space.proofs.own_words.owner_of.Given as goal

-- the entries before this one are for other words
abbrev pub invariant-words : goal.invariant-words
invariant-words l = owners_in (drop l.own-index l.words) l.address ≡ owners_in l.words l.address
