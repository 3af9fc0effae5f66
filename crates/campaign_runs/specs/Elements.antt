-- The elements of an array, one after another.
use Rattle.std.specs.Prelude.{ℕ, List, [], codes}
use Rattle.campaign_runs.specs.Members.{elements_text, later_elements}
use Rattle.campaign_runs.specs.declared.members.Before.{Before}
use Rattle.campaign_runs.specs.declared.members.Before.TheVariants.{Bracket, Element}

-- what stands between an element and what is before it
abbrev pub comma_after : Before → List ℕ
comma_after Bracket = []
comma_after Element = codes ","

-- the elements that are left
abbrev pub elements_after : Before → List (List ℕ) → List ℕ
elements_after Bracket elements = elements_text elements
elements_after Element elements = later_elements elements
