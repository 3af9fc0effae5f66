-- What an object of JSON says of a run beside how many harts ended in which way: members, each
-- behind a comma.
use Rattle.std.specs.Prelude.{ℕ, ◌+◌, List, [], ◌∷◌, ◌++◌, codes, map}
use Rattle.std.specs.Fmt.{decimal}
use Rattle.std.specs.List.{flat_map}
use Rattle.hart_step.specs.Hart.{HartValue}
use Rattle.hart_step.specs.declared.hart.HartState.{HartState}
use Rattle.hart_step.specs.declared.hart.HartState.TheVariants.{Running, Exited, Faulted}
use Rattle.object_library.specs.Names.{verdict_name}
use Rattle.outcome.specs.Ends.{a0_of, a1_of, cause_name}
use Rattle.property_judge.specs.declared.judged.Judged.{Judged}
use Rattle.property_judge.specs.declared.property.Property.{Property}
use Rattle.property_judge.specs.declared.property.Property.TheVariants.{Always, NeverBoth}
use Rattle.campaign_runs.specs.Properties.{verdict_by}
use Rattle.campaign_runs.specs.declared.campaign.Report.{Report}
use Rattle.campaign_runs.specs.declared.campaign.Report.TheVariants.{Lines, Failures, Summary, Outcomes, Causes}

-- elements behind a first, each behind a comma
abbrev pub later_elements : List (List ℕ) → List ℕ
later_elements [] = []
later_elements (e ∷ elements) = codes "," ++ (e ++ later_elements elements)

-- elements, a comma between two
abbrev pub elements_text : List (List ℕ) → List ℕ
elements_text [] = []
elements_text (e ∷ elements) = e ++ later_elements elements

-- the kind of a property
abbrev pub property_kind : Property → List ℕ
property_kind (Always word comparison number) = codes "always"
property_kind (NeverBoth from to) = codes "never-both"

-- a property: `{"kind":"never-both","verdict":"kept"}`
abbrev pub property_object : Judged → List ℕ
property_object judged =
    codes "{\"kind\":\"" ++ (property_kind judged.property
    ++ (codes "\",\"verdict\":\"" ++ (verdict_name (verdict_by judged.broken) ++ codes "\"}")))

-- what an object says of properties, in order, if there are some
abbrev pub properties_member : List Judged → List ℕ
properties_member [] = []
properties_member (judged ∷ more) =
    codes ",\"properties\":[" ++ (elements_text (map property_object (judged ∷ more)) ++ codes "]")

-- the registers of a hart, if it has exited: `{"hart":0,"a0":1,"a1":0}`
abbrev pub result_objects : ℕ → HartState → HartValue → List (List ℕ)
result_objects number Running hart = []
result_objects number (Faulted cause) hart = []
result_objects number (Exited status) hart =
    (codes "{\"hart\":" ++ (decimal number ++ (codes ",\"a0\":" ++ (decimal (a0_of hart)
    ++ (codes ",\"a1\":" ++ (decimal (a1_of hart) ++ codes "}")))))) ∷ []

-- those of harts that are numbered from a number on
abbrev pub results_objects : ℕ → List HartValue → List (List ℕ)
results_objects number [] = []
results_objects number (hart ∷ harts) =
    result_objects number hart.state hart ++ results_objects (number + 1) harts

-- the cause and the place of a hart's fault, if it has faulted: `{"cause":"Break","pc":65592}`
abbrev pub fault_objects : HartState → HartValue → List (List ℕ)
fault_objects Running hart = []
fault_objects (Exited status) hart = []
fault_objects (Faulted cause) hart =
    (codes "{\"cause\":\"" ++ (cause_name cause ++ (codes "\",\"pc\":" ++ (decimal hart.pc ++ codes "}")))) ∷ []

-- those of harts, in their order and without their numbers
abbrev pub faults_objects : List HartValue → List (List ℕ)
faults_objects harts = flat_map (λ hart. fault_objects hart.state hart) harts

-- the results of the harts that have exited, and the faults
abbrev pub results_member : List HartValue → List ℕ
results_member harts = codes ",\"results\":[" ++ (elements_text (results_objects 0 harts) ++ codes "]")

abbrev pub faults_member : List HartValue → List ℕ
faults_member harts = codes ",\"faults\":[" ++ (elements_text (faults_objects harts) ++ codes "]")

-- what an object of a report says of harts
abbrev pub harts_member : Report → List HartValue → List ℕ
harts_member Lines harts = []
harts_member Failures harts = []
harts_member Summary harts = []
harts_member Outcomes harts = results_member harts
harts_member Causes harts = faults_member harts

-- what it says of a run
abbrev pub ending_members : Report → List Judged → List HartValue → List ℕ
ending_members report judged harts = properties_member judged ++ harts_member report harts
