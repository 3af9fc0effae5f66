-- A debugger as its user sees it.
use Rattle.std.specs.Prelude.{ℕ, zero, suc, ◌+◌, ◌-◌, ◌*◌, ◌/◌, ◌%◌, Option, Some, None, List, length, slice_get}
use Rattle.image.specs.Image.{ImageValue}
use Rattle.machine.specs.World.{World}
use Rattle.machine.specs.declared.choice.Choice.{Choice}
use Rattle.machine.specs.State.{reached}
use Rattle.debug_session.specs.Points.{WatchedWords, watched_words}
use Rattle.debug_session.specs.Stops.{stop_at}
use Rattle.debug_session.specs.Wishes.{Wish, reason_on}
use Rattle.debug_session.specs.declared.stop.Stop.{Stop}
use Rattle.debug_session.specs.declared.debugger.Debugger.{Debugger}

-- an image, inputs, choices, the position in their run, and sorted breakpoints and watched words
pub record Session : Type 0 where
  pub image : ImageValue
  pub inputs : List ℕ
  pub choices : List Choice
  pub position : ℕ
  pub breaks : List ℕ
  pub watches : WatchedWords

-- the session of a debugger
abbrev pub session : {Z : Type 0} → Debugger Z → Session
session d = record {
  image = d.track.image;
  inputs = d.track.inputs;
  choices = d.track.choices.items;
  position = d.position;
  breaks = d.points.breaks.keys;
  watches = watched_words d.points.watches;
}

-- the world after k choices
abbrev pub world_at : Session → ℕ → World
world_at s k = reached s.image s.inputs s.choices k

-- the number of choices
abbrev pub length_of : Session → ℕ
length_of s = length s.choices

-- the same at another position
abbrev pub moved : Session → ℕ → Session
moved s k = record s { position = k }

-- the number of steps of a move to position k: those from the greatest multiple of 256 up to k
abbrev pub steps_to : ℕ → ℕ
steps_to k = k % 256

-- the number of steps of `go` if it ends at position k: those from its own position on
abbrev pub steps_on : Session → ℕ → ℕ
steps_on s k = k - s.position

-- the number of steps of a search backwards from position `below` that finds position k, or finds
-- none and k is 0: those from the greatest multiple of 256 below k, or 0, to `below`
abbrev pub steps_below : ℕ → ℕ → ℕ
steps_below below k = below - (k - 1) / 256 * 256

-- the number of steps of a search from the position before a session's own
abbrev pub steps_of_search : Session → ℕ → ℕ
steps_of_search s k = steps_below (s.position - 1) k

-- the number of steps of `rgo` if it ends at position k: those of its search, and of a move to k
abbrev pub steps_back : Session → ℕ → ℕ
steps_back s k = steps_of_search s k + steps_to k

-- the reason at choice i, counted from 0, if any
unfoldable pub reason_at : {R : Type 0} → Wish R → Session → ℕ → Option R
reason_at wish s i = reason_on wish (world_at s i) (slice_get s.choices i)

-- the stop at the position after choice i, counted from 0, if any
abbrev pub stop_behind : Session → ℕ → Option Stop
stop_behind s i = reason_at (stop_at s.breaks s.watches) s i

-- the position after a choice, and the reason there
abbrev pub Found : Type 0 → Type 0
Found R = ℕ × Option R

-- a position if it has a reason, else what is found elsewhere
abbrev pub found_or : {R : Type 0} → ℕ → Option R → Found R → Found R
found_or k None elsewhere = elsewhere
found_or k (Some why) elsewhere = (k, Some why)

-- the least of the n positions after i with a reason, or the last of them
unfoldable pub first_found : {R : Type 0} → (ℕ → Option R) → ℕ → ℕ → Found R
first_found reason i zero = (i, None)
first_found reason i (suc n) = found_or (i + 1) (reason i) (first_found reason (i + 1) n)

-- the greatest of the positions from 1 to n with a reason, or 0
unfoldable pub last_found : {R : Type 0} → (ℕ → Option R) → ℕ → Found R
last_found reason zero = (0, None)
last_found reason (suc i) = found_or (i + 1) (reason i) (last_found reason i)

-- the result of a search forwards, from the choice `from` on
abbrev pub first_of : {R : Type 0} → Wish R → Session → ℕ → Found R
first_of wish s from = first_found (reason_at wish s) from (length s.choices - from)

-- the result of a search forwards, from the position on
abbrev pub next_of : {R : Type 0} → Wish R → Session → Found R
next_of wish s = first_of wish s s.position

-- the result of a search backwards among the first `below` choices
abbrev pub last_of : {R : Type 0} → Wish R → Session → ℕ → Found R
last_of wish s below = last_found (reason_at wish s) below

-- the result of a search backwards, below the position
abbrev pub earlier_of : {R : Type 0} → Wish R → Session → Found R
earlier_of wish s = last_of wish s (s.position - 1)

-- the result of `go`
abbrev pub next_found : Session → Found Stop
next_found s = next_of (stop_at s.breaks s.watches) s

-- the result of `rgo`
abbrev pub earlier_found : Session → Found Stop
earlier_found s = earlier_of (stop_at s.breaks s.watches) s
