use Rattle.std.proofs.Common.{ℕ, ◌^◌, ◌<◌, get_or}
use Rattle.machine.proofs.inputs.see_words.Given as goal

-- the words that were read are words
abbrev pub invariant-words : goal.invariant-words
invariant-words l = (i d : ℕ) → i < l.word-index → get_or l.words i d < 2 ^ 32
