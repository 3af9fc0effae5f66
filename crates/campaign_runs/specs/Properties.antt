-- Properties of one's own, which each run of a campaign is judged by.
use Rattle.std.specs.Prelude.{ℕ, Bool, List, [], ◌∷◌, ◌++◌, codes, map, Option, Some, None, is_some, if◌then◌else◌}
use Rattle.std.specs.List.{flat_map, list_any}
use Rattle.machine.specs.World.{World}
use Rattle.machine.specs.declared.choice.Choice.{Choice}
use Rattle.object_library.specs.Names.{verdict_name}
use Rattle.object_library.specs.declared.verdict.Verdict.{Verdict}
use Rattle.object_library.specs.declared.verdict.Verdict.TheVariants.{Kept, Broken}
use Rattle.property_judge.specs.Judged.{judged_run}
use Rattle.property_judge.specs.declared.judged.Judged.{Judged}
use Rattle.property_judge.specs.declared.property.Property.{Property}
use Rattle.property_judge.specs.declared.property.Property.TheVariants.{Always, NeverBoth}
use Rattle.campaign_runs.specs.declared.properties.Properties.{Properties}

-- a property before a run, if there is one
abbrev pub before_run : Option Property → List Judged
before_run None = []
before_run (Some property) = record { property = property; broken = None } ∷ []

-- properties before a run, in order
abbrev pub unjudged : Properties → List Judged
unjudged properties = before_run properties.first ++ before_run properties.second

-- properties as they are judged at the start of the run from a world over a list of choices and
-- after each choice
abbrev pub judged_over : Properties → World → List Choice → List Judged
judged_over properties world choices = map (judged_run world choices) (unjudged properties)

-- whether a property was kept: it is broken if there is a number of choices after which it didn't hold
abbrev pub verdict_by : Option ℕ → Verdict
verdict_by None = Kept
verdict_by (Some choices) = Broken

-- whether one of these properties is broken
abbrev pub any_broken : List Judged → Bool
any_broken judged = list_any (λ each. is_some each.broken) judged

-- the verdict on properties, if there are some: `Broken` if one of them is broken
abbrev pub verdict_on_each : List Judged → Option Verdict
verdict_on_each [] = None
verdict_on_each (judged ∷ more) = Some (if any_broken (judged ∷ more) then Broken else Kept)

-- what a property's words begin with
abbrev pub property_name : Property → List ℕ
property_name (Always word comparison number) = codes " always "
property_name (NeverBoth from to) = codes " never-both "

-- what a line says of a property: ` never-both kept`
abbrev pub words_of_property : Judged → List ℕ
words_of_property judged = property_name judged.property ++ verdict_name (verdict_by judged.broken)

-- what it says of properties, in order: ` never-both kept always broken`
abbrev pub property_words : List Judged → List ℕ
property_words judged = flat_map words_of_property judged

-- no property
abbrev pub no_properties : Properties
no_properties = record { first = None; second = None }
