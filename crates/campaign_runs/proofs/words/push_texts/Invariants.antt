use Rattle.std.proofs.Common.{◌≡◌, ◌++◌, drop, string_bytes}
use Rattle.std.specs.List.{flat_map}
use Rattle.campaign_runs.specs.Words.{text_of_word}
use Rattle.campaign_runs.proofs.words.push_texts.Given as goal

-- the text so far, and then the words that are left
abbrev pub invariant-words : goal.invariant-words
invariant-words g l = string_bytes l.text ++ flat_map text_of_word (drop l.each-index l.seen)
    ≡ string_bytes l.initial.text ++ flat_map text_of_word l.seen
