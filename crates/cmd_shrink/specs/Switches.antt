-- Runs of choices of one hart, and the switches of harts between them.
use Rattle.std.specs.Prelude.{◌≡◌, ◌⊎◌, ℕ, ◌+◌, ◌<◌, ◌≤◌, ◌==◌, if◌then◌else◌}
use Rattle.std.specs.Prelude.{List, [], ◌∷◌, ◌++◌, length, take, drop, slice_get, Option, option_map}
use Rattle.std.specs.List.{between}
use Rattle.machine.specs.declared.choice.Choice.{Choice}
use Rattle.cmd_shrink.specs.Less.{choices_of_hart, weight}

-- the hart of the choice at an index, if there is one
abbrev pub hart_chosen_at : ℕ → List Choice → Option ℕ
hart_chosen_at k choices = option_map (λ (c : Choice). c.hart) (slice_get choices k)

-- the choices from one index up to another are a run: they are of one hart, and those beside them
-- are not
pub record IsRun (from to : ℕ) (choices : List Choice) : Type 0 where
  pub some : from < to
  pub within : to ≤ length choices
  pub one : (k : ℕ) → from ≤ k → k < to → hart_chosen_at k choices ≡ hart_chosen_at from choices
  pub begins : (k : ℕ) → k + 1 ≡ from → hart_chosen_at k choices ≡ hart_chosen_at from choices → ⊥
  pub ends : hart_chosen_at to choices ≡ hart_chosen_at from choices → ⊥

-- whether the next choice, if there is one, is of another hart: 1, or else 0
abbrev pub switch_from : ℕ → List Choice → ℕ
switch_from hart [] = 0
switch_from hart (c ∷ choices) = if c.hart == hart then 0 else 1

-- the number of switches: how often a choice is of another hart than the one before it
unfoldable pub switches : List Choice → ℕ
switches [] = 0
switches (c ∷ choices) = switch_from c.hart choices + switches choices

-- the list after an exchange of two parts: from i up to j, and from j up to k
abbrev pub exchanged : ℕ → ℕ → ℕ → List Choice → List Choice
exchanged i j k choices = take i choices ++ (between j k choices ++ (between i j choices ++ drop k choices))

-- the list still fails, has the other's choices, those of each hart in the same order, and has
-- fewer switches
pub record Settles (Fails : List Choice → Type 0) (list given : List Choice) : Type 0 where
  pub same : (hart : ℕ) → choices_of_hart hart list ≡ choices_of_hart hart given
  pub fails : Fails list
  pub weighs : weight list ≡ weight given
  pub fewer : switches list < switches given

-- no hart has choices in both of two parts: from i up to j, and from j up to k
abbrev pub ShareNoHart : ℕ → ℕ → ℕ → List Choice → Type 0
ShareNoHart i j k choices =
    (hart : ℕ) → (choices_of_hart hart (between i j choices) ≡ []) ⊎ (choices_of_hart hart (between j k choices) ≡ [])

-- two runs of one hart, from i up to j and from m up to n, with no choice of it between them
pub record AreNext (i j m n : ℕ) (choices : List Choice) : Type 0 where
  pub run : IsRun i j choices
  pub next : IsRun m n choices
  pub behind : j ≤ m
  pub same : hart_chosen_at m choices ≡ hart_chosen_at i choices
  pub others : (k : ℕ) → j ≤ k → k < m → hart_chosen_at k choices ≡ hart_chosen_at i choices → ⊥

-- no exchange of two neighbouring parts, by which there are fewer switches, fails
abbrev pub StaySo : (List Choice → Type 0) → ℕ → ℕ → ℕ → List Choice → Type 0
StaySo Fails i j k choices =
    switches (exchanged i j k choices) < switches choices → Fails (exchanged i j k choices) → ⊥

-- no exchange of two neighbouring runs, by which there are fewer switches, fails; nor does a move of
-- a run of a hart up to the next one, or of that one back to it
pub record HasFewSwitches (Fails : List Choice → Type 0) (choices : List Choice) : Type 0 where
  pub neighbours : (i j k : ℕ) → IsRun i j choices → IsRun j k choices → StaySo Fails i j k choices
  pub up : (i j m n : ℕ) → AreNext i j m n choices → StaySo Fails i j m choices
  pub back : (i j m n : ℕ) → AreNext i j m n choices → StaySo Fails j m n choices
