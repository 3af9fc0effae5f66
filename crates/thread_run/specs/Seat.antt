-- A seat and the book that it came from.
use Rattle.std.specs.Prelude.{◌≡◌, ℕ, ◌<◌, ◌≤◌, Bool, length}
use Rattle.thread_book.specs.Book.{BookValue, IsSoundBook}
use Rattle.thread_book.specs.Segment.{SegmentState}
use Rattle.thread_book.specs.Present.{IsFresh, IsPresented, GivesNone, RefusesToTake}
use Rattle.thread_book.specs.declared.fault.SegmentFault.{SegmentFault}
use Rattle.thread_book.specs.declared.fault.PresentFault.{PresentFault}
use Rattle.thread_book.specs.declared.fault.PresentFault.TheVariants as present
use Rattle.thread_run.specs.declared.fault.CommitFault.{CommitFault}
use Rattle.thread_run.specs.declared.fault.CommitFault.TheVariants as commit

-- the segment with this refusal of its last step
abbrev pub with_refusal : SegmentState → Bool → SegmentState
with_refusal s refuse = record s { refuse = refuse }

-- a segment of hart h of some sound book: its history led the hart into the slot, over the seat's
-- code
pub record IsSeated (h : ℕ) (s : SegmentState) : Type 0 where
  pub book : BookValue
  pub sound : IsSoundBook book
  pub there : h < length book.inputs
  pub fresh : IsFresh book h s

-- some sound book gives no segment of hart h
pub record IsUnseated (h : ℕ) (fault : SegmentFault) : Type 0 where
  pub book : BookValue
  pub sound : IsSoundBook book
  pub none : GivesNone book h fault

-- some sound book took the segment with this refusal: its history had led the hart into the
-- segment's slot; the entry came next, and the new seat is the hart as the book had it then
pub record IsCommitted (s : SegmentState) (refuse : Bool) (t : SegmentState) : Type 0 where
  pub before : BookValue
  pub after : BookValue
  pub sound : IsSoundBook before × IsSoundBook after
  pub presented : IsPresented before (with_refusal s refuse) after t

-- the fault of a commit for the book's fault; a hart that does not exist is stale too
abbrev pub fault_of_present : PresentFault → CommitFault
fault_of_present present.NoHart = commit.Stale
fault_of_present present.Stale = commit.Stale
fault_of_present present.Memory = commit.Memory

-- some sound book did not take the segment, for a reason that the fault reports
pub record IsNotTaken (s : SegmentState) (fault : CommitFault) : Type 0 where
  pub book : BookValue
  pub sound : IsSoundBook book
  pub why : PresentFault
  pub refuses : RefusesToTake book s why
  pub reported : fault ≡ fault_of_present why

-- the reason why a book gives no seat of hart h
abbrev pub GivesNoSeat : BookValue → ℕ → CommitFault → Type 0
GivesNoSeat b h commit.Stale = length b.inputs ≤ h
GivesNoSeat b h commit.Memory = h < length b.inputs
