-- What a step adds to its hart's log, and what a hart's thread leaves.
use Rattle.std.specs.Prelude.{◌≡◌, ◌⊎◌, ℕ, ◌+◌, ◌<◌, ◌≤◌, true, false, List, [], ◌∷◌, Some}
use Rattle.image.specs.Image.{ImageValue}
use Rattle.thread_gate.specs.Stopped.{is_stopped}
use Rattle.thread_gate.specs.Plan.{is_planned}
use Rattle.bank_laws.specs.declared.access.LoggedAccess.{LoggedAccess}
use Rattle.bank_laws.specs.Segments.{LoggedSegment}
use Rattle.bank_laws.specs.Order.{Rises, Earlier, is_code_read}
use Rattle.bank_memory.specs.BankLog.{BankLog}
use Rattle.bank_memory.specs.Rising.{may_follow}
use Rattle.bank_memory.specs.Stamps.{last_access_stamp, next_stamp}
use Rattle.bank_order.specs.Merged.{choices_in}
use Rattle.bank_hart_log.specs.HartLog.{HartLogValue, last_segment_stamp, logged_slot, with_segment}
use Rattle.bank_worker.specs.declared.step.NextSegment.{NextSegment}

-- each segment of hart h, after the choices made so far, is refused exactly if the plan has the
-- hart and the number of the segment's last choice, counted from 0
abbrev pub LogIsFlagged : List (ℕ × ℕ) → ℕ → ℕ → List LoggedSegment → Type 0
LogIsFlagged plan h made [] = Unit {0}
LogIsFlagged plan h made (e ∷ es) =
    (e.refuse ≡ is_planned plan h (made + e.local)) × LogIsFlagged plan h (made + (e.local + 1)) es

-- a hart has stopped after at most `budget` of its choices, or has made exactly that many
abbrev pub LogHasEnded : ℕ → HartLogValue → Type 0
LogHasEnded budget l = (choices_in l.log ≤ budget)
    × ((is_stopped (logged_slot l).hart.state ≡ true) ⊎ (choices_in l.log ≡ budget))

-- a segment has the walked steps, their hart and refusal, and a stamp above the hart's last one
pub record IsOfWalk (w : NextSegment) (e : LoggedSegment) : Type 0 where
  pub hart : e.hart ≡ w.hart
  pub local : e.local ≡ w.local
  pub refuse : e.refuse ≡ w.refuse
  pub above : w.last_stamp < e.stamp

-- the segment that a log's hart logs next, after the choices made so far, with `local` local steps
abbrev pub next_segment : HartLogValue → List (ℕ × ℕ) → ℕ → ℕ → NextSegment
next_segment l plan made local = record {
  hart = l.hart;
  local = local;
  refuse = is_planned plan l.hart (made + local);
  last_stamp = last_segment_stamp l.log;
}

-- a log has one more segment: a given one, with accesses
pub record AddsSegment (old new : HartLogValue) (e : LoggedSegment) : Type 0 where
  pub accesses : List LoggedAccess
  pub adds : new ≡ with_segment old (record e { accesses = accesses })

-- a log has one more segment, of the walked steps
pub record AddsStep (old new : HartLogValue) (w : NextSegment) : Type 0 where
  pub segment : LoggedSegment
  pub adds : new ≡ with_segment old segment
  pub walked : IsOfWalk w segment

-- the last stamp of a bank after a step is one more than the greatest of the last stamps that the
-- hart and the bank had before it
abbrev pub IsStampedNext : HartLogValue → BankLog → BankLog → Type 0
IsStampedNext l old new =
    next_stamp (last_segment_stamp l.log) (last_access_stamp old.log ∷ []) ≡ Some (last_access_stamp new.log)

-- an access of a segment that is no code read comes after all accesses of a bank
abbrev pub IsNextIn : BankLog → LoggedSegment → Type 0
IsNextIn b e = (a : LoggedAccess) → a.stamp ≡ e.stamp → a.hart ≡ e.hart → is_code_read a.kind ≡ false → may_follow b.log a ≡ true

-- a thread's log so far: of hart h, with a number of choices within the budget, refused as planned,
-- and with rising stamps
pub record IsWorking (image : ImageValue) (h budget : ℕ) (plan : List (ℕ × ℕ)) (l : HartLogValue) (made : ℕ) : Type 0 where
  pub same_image : l.image ≡ image
  pub number : l.hart ≡ h
  pub count : choices_in l.log ≡ made
  pub room : made ≤ budget
  pub flagged : LogIsFlagged plan h 0 l.log
  pub rising : Rises Earlier l.log
