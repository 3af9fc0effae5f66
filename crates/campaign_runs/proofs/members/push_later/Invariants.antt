use Rattle.std.proofs.Common.{◌≡◌, ◌++◌, drop, map, string_bytes}
use Rattle.campaign_runs.specs.Members.{later_elements, property_object}
use Rattle.campaign_runs.proofs.members.push_later.Given as goal

-- the text so far, and then the properties that are left
abbrev pub invariant-judged : goal.invariant-judged
invariant-judged g l = string_bytes l.text ++ later_elements (map property_object (drop l.each-index l.judged))
    ≡ string_bytes l.initial.text ++ later_elements (map property_object l.judged)
