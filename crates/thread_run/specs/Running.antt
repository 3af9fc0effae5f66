-- The invariant under the lock while harts run.
use Rattle.std.specs.Prelude.{◌≡◌, ◌⊎◌, ℕ, zero, suc, ◌+◌, ◌<◌, ◌≤◌, ◌==◌, ◌||◌, Bool, List, [], length, slice_index, Option, if◌then◌else◌}
use Rattle.std.specs.List.{All}
use Rattle.image.specs.Image.{ImageValue}
use Rattle.thread_book.specs.Book.{BookValue, hart_in_book}
use Rattle.thread_run.specs.Own.{own_choices}
use Rattle.thread_run.specs.Plan.{IsFlagged}
use Rattle.thread_run.specs.Total.{all_choices, IsUsedUp, IsRoom}
use Rattle.thread_run.specs.declared.entered.Entered.{Entered}
use Rattle.thread_run.specs.declared.entered.Entered.TheVariants as entered
use Rattle.thread_run.specs.Whole.{AreWhole}
use Rattle.thread_run.specs.Outcome.{has_stopped, IsWithin}

-- whether hart h is done: it has stopped or used its budget up
abbrev pub is_done : ℕ → BookValue → ℕ → Bool
is_done budget b h = has_stopped (hart_in_book b h) || (own_choices b h == budget)

-- the number of the first n harts that are not done
abbrev pub open_below : (ℕ → Bool) → ℕ → ℕ
open_below done zero = 0
open_below done (suc n) = if done n then open_below done n else open_below done n + 1

-- the book, the number of each hart's choices in it, the choices that are left of the total, and,
-- until the total is used up, a ticket for each hart that is not done
pub record IsRunning (image : ImageValue) (inputs : List ℕ) (budget : ℕ) (total : Option ℕ) (plan : List (ℕ × ℕ)) (b : BookValue) (counts : List ℕ) (room : Option ℕ) (tickets : ℕ) : Type 0 where
  pub same_image : b.image ≡ image
  pub same_inputs : b.inputs ≡ inputs
  pub long : length counts ≡ length inputs
  pub counted : (h : ℕ) → h < length inputs → slice_index counts h ≡ own_choices b h
  pub spent : (h : ℕ) → h < length inputs → slice_index counts h ≤ budget
  pub flagged : IsFlagged plan [] b.history
  pub within : All (IsWithin (length inputs) budget) b.history
  pub whole : AreWhole image inputs budget total [] b.history
  pub left : IsRoom total (all_choices b) room
  pub to_do : IsUsedUp total (all_choices b) ⊎ (tickets ≡ open_below (is_done budget b) (length inputs))

-- the tickets of a hart after a commit
abbrev pub tickets_after : Entered → ℕ
tickets_after entered.Done = 0
tickets_after entered.GoesOn = 1
tickets_after (entered.Short room) = 1

-- a segment that was entered has no local steps; one with these was too long for what was left
abbrev pub IsAfter : Entered → ℕ → ℕ → Type 0
IsAfter entered.Done was now = Unit {0}
IsAfter entered.GoesOn was now = now ≡ 0
IsAfter (entered.Short room) was now = room ≤ was
