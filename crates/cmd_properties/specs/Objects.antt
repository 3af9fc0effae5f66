-- A run as an object of JSON, with its properties.
use Rattle.std.specs.Prelude.{ℕ, Bool, List, [], ◌∷◌, ◌++◌, codes, decimal, map, Option}
use Rattle.cmd_json.specs.Harts.{harts_value}
use Rattle.cmd_json.specs.Verdict.{verdict_value}
use Rattle.hart_step.specs.Hart.{HartValue}
use Rattle.object_library.specs.declared.verdict.Verdict.{Verdict}
use Rattle.property_judge.specs.declared.judged.Judged.{Judged}
use Rattle.property_judge.specs.declared.property.Property.{Property}
use Rattle.property_judge.specs.declared.property.Property.TheVariants.{Always, NeverBoth}
use Rattle.trace_text.specs.Composites.{array, member, object}
use Rattle.trace_text.specs.Scalars.{number_or_null}
use Rattle.trace_text.specs.Values.{name_value}
use Rattle.cmd_properties.specs.Hangs.{hang_member}
use Rattle.cmd_properties.specs.Lines.{comparison_name}

-- the kind of a property of a range
unfoldable pub range_kind : List ℕ
range_kind = codes "never-both"

-- what a property says, and a last member
abbrev pub property_members : Property → List ℕ → List (List ℕ)
property_members (Always word comparison number) last =
    member (codes "kind") (name_value (codes "always"))
    ∷ member (codes "address") (decimal word)
    ∷ member (codes "comparison") (name_value (comparison_name comparison))
    ∷ member (codes "number") (decimal number)
    ∷ last ∷ []
property_members (NeverBoth from to) last =
    member (codes "kind") (name_value range_kind)
    ∷ member (codes "from") (decimal from)
    ∷ member (codes "to") (decimal to)
    ∷ last ∷ []

-- a property, and after how many choices it was broken
unfoldable pub judged_object : Judged → List ℕ
judged_object judged =
    object (property_members judged.property (member (codes "broken_after") (number_or_null judged.broken)))

-- a run by its harts, the verdict, its properties and whether it hangs, on a line of its own
unfoldable pub run_object : Option Verdict → List HartValue → List Judged → Option Bool → List ℕ
run_object verdict harts judged hangs = object (
    member (codes "harts") (harts_value harts)
    ∷ member (codes "verdict") (verdict_value verdict)
    ∷ member (codes "properties") (array (map judged_object judged))
    ∷ hang_member hangs) ++ 10 ∷ []
