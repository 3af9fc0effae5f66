-- A failing list from which nothing more can be removed.
use Rattle.std.specs.Prelude.{◌≡◌, ℕ, ◌+◌, ◌<◌, true, List, length, Some, slice_get}
use Rattle.machine.specs.declared.choice.Choice.{Choice}
use Rattle.cmd_shrink.specs.Less.{IsLess, weight}
use Rattle.cmd_shrink.specs.Edits.{left_out, marks_taken}

-- the list still fails, is another with choices left out and marks removed, and is not that one
pub record Lessens (Fails : List Choice → Type 0) (list given : List Choice) : Type 0 where
  pub less : IsLess list given
  pub fails : Fails list
  pub lighter : weight list < weight given

-- without choice number k the list doesn't fail, nor without its mark, if it has one
pub record IsNeeded (Fails : List Choice → Type 0) (k : ℕ) (choices : List Choice) : Type 0 where
  pub choice : Fails (left_out k (k + 1) choices) → ⊥
  pub mark : (c : Choice) → slice_get choices k ≡ Some c → c.refuse ≡ true → Fails (marks_taken k (k + 1) choices) → ⊥

-- each choice and each mark is needed
abbrev pub IsMinimal : (List Choice → Type 0) → List Choice → Type 0
IsMinimal Fails choices = (k : ℕ) → k < length choices → IsNeeded Fails k choices
