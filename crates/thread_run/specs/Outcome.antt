-- The result of a run of threads.
use Rattle.std.specs.Prelude.{◌≡◌, ◌⊎◌, ℕ, ◌<◌, ◌≤◌, Bool, true, false, List, [], length, Option, Some, None}
use Rattle.std.specs.List.{All}
use Rattle.image.specs.Image.{ImageValue}
use Rattle.hart_step.specs.Hart.{HartValue}
use Rattle.history.specs.declared.entry.Entry.{Entry}
use Rattle.thread_book.specs.Book.{BookValue, hart_in_book}
use Rattle.thread_gate.specs.Stopped.{is_stopped}
use Rattle.thread_run.specs.Own.{own_choices}
use Rattle.thread_run.specs.Plan.{IsFlagged}
use Rattle.thread_run.specs.Total.{all_choices, Allows, IsUsedUp}
use Rattle.thread_run.specs.Whole.{AreWhole}

-- whether a hart exists and has stopped
abbrev pub has_stopped : Option HartValue → Bool
has_stopped None = false
has_stopped (Some v) = is_stopped v.state

-- hart h has stopped and was chosen at most this often, or was chosen exactly this often, or the
-- total of all harts is used up
abbrev pub HasEnded : BookValue → ℕ → Option ℕ → ℕ → Type 0
HasEnded b budget total h =
    ((has_stopped (hart_in_book b h) ≡ true) × (own_choices b h ≤ budget)) ⊎ (own_choices b h ≡ budget) ⊎ IsUsedUp total (all_choices b)

-- the entry is of one of n harts, and all its choices are within the budget
abbrev pub IsWithin : ℕ → ℕ → Entry → Type 0
IsWithin n budget e = (e.hart < n) × (e.local < budget)

-- the book of a run with this budget of each hart, this total of all, if there is one, and this plan
pub record IsOutcome (image : ImageValue) (inputs : List ℕ) (budget : ℕ) (total : Option ℕ) (plan : List (ℕ × ℕ)) (b : BookValue) : Type 0 where
  pub same_image : b.image ≡ image
  pub same_inputs : b.inputs ≡ inputs
  pub ended : (h : ℕ) → h < length inputs → HasEnded b budget total h
  pub flagged : IsFlagged plan [] b.history
  pub within : All (IsWithin (length inputs) budget) b.history
  pub in_all : Allows total (all_choices b)
  pub whole : AreWhole image inputs budget total [] b.history
