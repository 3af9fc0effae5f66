use Rattle.std.proofs.Common.{◌≡◌, drop}
use Rattle.property_text.specs.Texts.{dots_from}
use Rattle.property_text.proofs.never_both.dots_at.Given as goal

-- what is found in the rest is what is found in the whole
abbrev pub invariant-bytes : goal.invariant-bytes
invariant-bytes l = dots_from l.at (drop l.at l.text) ≡ dots_from 0 l.text
