-- What `explore` answers, as objects of JSON, each on a line of its own.
use Rattle.std.specs.Prelude.{ℕ, List, [], ◌∷◌, ◌++◌, codes, decimal, map}
use Rattle.cmd_json.specs.Counts.{counts_members}
use Rattle.explore_bounds.specs.declared.bound.Bound.{Bound}
use Rattle.explore_bounds.specs.declared.bound.Bound.TheVariants.{After, Never}
use Rattle.explore_space.specs.Ends.{EndValue}
use Rattle.explore_space.specs.declared.run_end.Returned.{Returned}
use Rattle.json.specs.Print.{quoted}
use Rattle.machine.specs.declared.choice.Choice.{Choice}
use Rattle.outcome.specs.declared.expect.Exit.{Exit}
use Rattle.outcome.specs.declared.expect.Exit.TheVariants.{May, Must}
use Rattle.sched_text.specs.Printing.{runs_text}
use Rattle.trace_text.specs.Composites.{array, member, object}
use Rattle.trace_text.specs.Values.{name_value}

-- what a hart returned
unfoldable pub returned_object : Returned → List ℕ
returned_object one =
    object (member (codes "a0") (decimal one.a0) ∷ member (codes "a1") (decimal one.a1) ∷ [])

-- an end: how many harts ended in which way, the verdict, and what each hart returned
unfoldable pub end_object : EndValue → List ℕ
end_object end =
    object (counts_members end.outcome ++ member (codes "returned") (array (map returned_object end.returned)) ∷ [])

-- after how many own steps a hart has stopped, or `null` if it has no bound
unfoldable pub bound_value : Bound → List ℕ
bound_value (After steps) = decimal steps
bound_value Never = codes "null"

-- that each world has a way out, or `null` if that isn't asked
unfoldable pub exit_value : Exit → List ℕ
exit_value May = codes "null"
exit_value Must = codes "true"

-- the answer that no schedule fails, nor hangs if each hart must exit
unfoldable pub held_object : Exit → ℕ → List EndValue → List Bound → List ℕ
held_object exit worlds ends bounds = object (
    member (codes "answer") (name_value (codes "holds"))
    ∷ member (codes "worlds") (decimal worlds)
    ∷ member (codes "ways_out") (exit_value exit)
    ∷ member (codes "ends") (array (map end_object ends))
    ∷ member (codes "bounds") (array (map bound_value bounds))
    ∷ []) ++ 10 ∷ []

-- the answer that a list fails or hangs: the answer's word, the turns, and the choice text
unfoldable pub list_object : List ℕ → ℕ → List Choice → List ℕ
list_object answer turns choices = object (
    member (codes "answer") (name_value answer)
    ∷ member (codes "turns") (decimal turns)
    ∷ member (codes "choices") (quoted (runs_text choices))
    ∷ []) ++ 10 ∷ []

-- the answer that there are more worlds than may be looked at
unfoldable pub undecided_object : ℕ → List ℕ
undecided_object most = object (
    member (codes "answer") (name_value (codes "undecided"))
    ∷ member (codes "most") (decimal most)
    ∷ []) ++ 10 ∷ []
