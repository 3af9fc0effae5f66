use Rattle.std.proofs.Common.{◌≡◌, [], None}
use Rattle.explore_space.specs.Habits.{owners_in}
use Rattle.explore_space.proofs.own_words.without.Given as goal

-- no entry so far is for the word, and nothing comes from nothing
abbrev pub invariant-words : goal.invariant-words
invariant-words g l = (owners_in l.left.items l.address ≡ None) × (l.words ≡ [] → l.left.items ≡ [])
