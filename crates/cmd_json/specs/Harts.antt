-- How harts ended, as values of JSON.
use Rattle.std.specs.Prelude.{ℕ, ◌+◌, List, [], ◌∷◌, codes, decimal}
use Rattle.hart_step.specs.declared.hart.HartState.{HartState}
use Rattle.hart_step.specs.declared.hart.HartState.TheVariants.{Running, Exited, Faulted}
use Rattle.hart_step.specs.Hart.{HartValue}
use Rattle.outcome.specs.Ends.{a0_of, a1_of}
use Rattle.trace_text.specs.Composites.{array, member, object}
use Rattle.trace_text.specs.Values.{cause_text, name_value}

-- a hart's state, with the registers or the address that belong to it
abbrev pub state_members : HartState → HartValue → List (List ℕ)
state_members Running hart =
    member (codes "state") (name_value (codes "running"))
    ∷ member (codes "pc") (decimal hart.pc)
    ∷ []
state_members (Exited status) hart =
    member (codes "state") (name_value (codes "exited"))
    ∷ member (codes "a0") (decimal (a0_of hart))
    ∷ member (codes "a1") (decimal (a1_of hart))
    ∷ []
state_members (Faulted cause) hart =
    member (codes "state") (name_value (codes "faulted"))
    ∷ member (codes "cause") (name_value (cause_text cause))
    ∷ member (codes "pc") (decimal hart.pc)
    ∷ []

-- a hart, by its number
unfoldable pub ended_object : ℕ → HartValue → List ℕ
ended_object number hart = object (member (codes "hart") (decimal number) ∷ state_members hart.state hart)

-- harts that are numbered from a number on
abbrev pub ended_objects : ℕ → List HartValue → List (List ℕ)
ended_objects number [] = []
ended_objects number (hart ∷ harts) = ended_object number hart ∷ ended_objects (number + 1) harts

-- the harts of a run, from hart 0 on
abbrev pub harts_value : List HartValue → List ℕ
harts_value harts = array (ended_objects 0 harts)
