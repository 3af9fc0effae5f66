use Rattle.std.proofs.Common.{◌≡◌, ◌++◌, drop, map, string_bytes}
use Rattle.campaign_runs.specs.Members.{later_elements}
use Rattle.campaign_runs.specs.Words.{object_of_word}
use Rattle.campaign_runs.proofs.words.push_later.Given as goal

-- the text so far, and then the words that are left
abbrev pub invariant-words : goal.invariant-words
invariant-words g l = string_bytes l.text ++ later_elements (map object_of_word (drop l.each-index l.seen))
    ≡ string_bytes l.initial.text ++ later_elements (map object_of_word l.seen)
