use Rattle.std.proofs.Common.{◌≡◌, ◌++◌, drop, string_bytes}
use Rattle.campaign_runs.specs.Properties.{property_words}
use Rattle.campaign_runs.proofs.ending.push_properties.Given as goal

-- the text so far, and then the words of the properties that are left
abbrev pub invariant-judged : goal.invariant-judged
invariant-judged g l = string_bytes l.text ++ property_words (drop l.each-index l.judged)
    ≡ string_bytes l.initial.text ++ property_words l.judged
