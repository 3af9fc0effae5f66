-- How runs end after which no hart runs.
use Rattle.std.specs.Prelude.{◌≡◌, ◌≢◌, ◌⊎◌, ℕ, ◌+◌, ◌/◌, ◌<◌, false, List, [], ◌∷◌, ◌++◌, Option, Some, length, map, take, slice_get}
use Rattle.std.specs.List.{AllPairs, Contains}
use Rattle.hart_step.specs.Hart.{HartValue}
use Rattle.hart_step.specs.declared.hart.Hart.{Hart}
use Rattle.object_library.specs.declared.kind.Kind.{Kind}
use Rattle.outcome.specs.Ends.{a0_of, a1_of}
use Rattle.outcome.specs.Expect.{judged}
use Rattle.outcome.specs.Outcome.{some_run}
use Rattle.outcome.specs.declared.run_outcome.Outcome.{Outcome}
use Rattle.explore_space.specs.Failing.{one_each}
use Rattle.explore_space.specs.Places.{chosen_by_key, hart_worded}
use Rattle.explore_space.specs.declared.run_end.Ends.{Ends}
use Rattle.explore_space.specs.declared.run_end.Returned.{Returned}
use Rattle.explore_space.specs.declared.run_end.RunEnd.{RunEnd}

-- how many harts ended in each way, the verdict on them, and what each has in a0 and a1
pub record EndValue : Type 0 where
  pub outcome : Outcome
  pub returned : List Returned

-- the code's end as an `EndValue`, and its ends
abbrev pub end_of : {Z : Type 0} → RunEnd Z → EndValue
end_of end = record { outcome = end.outcome; returned = end.returned.items }

abbrev pub ends_in : {Z : Type 0} → Ends Z → List EndValue
ends_in ends = map end_of ends.kept.keys

-- an end is among ends, or is added behind them
abbrev pub AddsEnd : List EndValue → EndValue → List EndValue → Type 0
AddsEnd ends end more = (Contains ends end × (more ≡ ends)) ⊎ ((Contains ends end → ⊥) × (more ≡ ends ++ end ∷ []))

-- what a hart has in a0 and a1
abbrev pub returned_by : HartValue → Returned
returned_by hart = record { a0 = a0_of hart; a1 = a1_of hart }

-- the end of harts with an outcome
abbrev pub end_with : Outcome → List HartValue → EndValue
end_with outcome harts = record { outcome = outcome; returned = map returned_by harts }

-- a row is a key of n harts, whose words are of numbers below a count
abbrev pub FitsHarts : ℕ → ℕ → List ℕ → Type 0
FitsHarts n count key = (length key ≡ n + 1) × ((k word : ℕ) → slice_get (take n key) k ≡ Some word → word / 2 < count)

-- the harts at a key, and their end
abbrev pub harts_at : List ℕ → List Hart → List ℕ → List HartValue
harts_at inputs harts key = map (hart_worded harts) (take (length inputs) key)

abbrev pub end_at : Option Kind → List ℕ → List Hart → List ℕ → EndValue
end_at rule inputs harts key =
    end_with (judged rule inputs (one_each (length inputs) (chosen_by_key (length inputs) key)) (harts_at inputs harts key))
    (harts_at inputs harts key)

-- an end is that at one of some keys, where no hart runs
pub record IsEndAt (rule : Option Kind) (inputs : List ℕ) (harts : List Hart) (keys : List (List ℕ)) (end : EndValue) : Type 0 where
  pub key : List ℕ
  pub there : Contains keys key
  pub stopped : some_run (harts_at inputs harts key) ≡ false
  pub is : end_at rule inputs harts key ≡ end

-- ends are those at keys where no hart runs: all of them, each once, and no other
pub record AreEndsAt (rule : Option Kind) (inputs : List ℕ) (harts : List Hart) (keys : List (List ℕ)) (ends : List EndValue) : Type 0 where
  pub all : (key : List ℕ) → Contains keys key → some_run (harts_at inputs harts key) ≡ false → Contains ends (end_at rule inputs harts key)
  pub each : (end : EndValue) → Contains ends end → IsEndAt rule inputs harts keys end
  pub once : AllPairs (λ a b. a ≢ b) ends
