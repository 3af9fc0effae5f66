-- How many harts ended in which way, as members of JSON.
use Rattle.std.specs.Prelude.{ℕ, List, [], ◌∷◌, ◌++◌, codes, decimal}
use Rattle.outcome.specs.declared.run_outcome.Outcome.{Outcome}
use Rattle.trace_text.specs.Composites.{member}
use Rattle.cmd_json.specs.Verdict.{verdict_value}

-- how many harts have exited, have faulted and run, and the verdict
abbrev pub counts_members : Outcome → List (List ℕ)
counts_members outcome =
    member (codes "exited") (decimal outcome.exited)
    ∷ member (codes "faulted") (decimal outcome.faulted)
    ∷ member (codes "running") (decimal outcome.running)
    ∷ member (codes "verdict") (verdict_value outcome.verdict)
    ∷ []

-- members, a comma between two
abbrev pub joined_members : List (List ℕ) → List ℕ
joined_members [] = []
joined_members (m ∷ []) = m
joined_members (m ∷ (n ∷ members)) = m ++ 44 ∷ joined_members (n ∷ members)

-- the same as the inside of an object
abbrev pub counts_text : Outcome → List ℕ
counts_text outcome = joined_members (counts_members outcome)
