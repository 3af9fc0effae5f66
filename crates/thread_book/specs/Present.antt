-- Segments of a book, and the segments that it takes or refuses.
use Rattle.std.specs.Prelude.{◌≡◌, ℕ, ◌<◌, ◌≤◌, false, [], ◌∷◌, ◌++◌, length, Some}
use Rattle.mem_store.specs.Image.{segments_memory}
use Rattle.hart_step.specs.Hart.{hart_of}
use Rattle.hart_local.specs.LocalStep.{walk}
use Rattle.machine.specs.World.{run}
use Rattle.history.specs.History.{entry, entry_choices}
use Rattle.thread_book.specs.Book.{BookValue, world_of, hart_in_book, book_code}
use Rattle.thread_book.specs.Segment.{SegmentState}
use Rattle.thread_book.specs.declared.fault.SegmentFault.{SegmentFault}
use Rattle.thread_book.specs.declared.fault.SegmentFault.TheVariants as segment
use Rattle.thread_book.specs.declared.fault.PresentFault.{PresentFault}
use Rattle.thread_book.specs.declared.fault.PresentFault.TheVariants as present

-- the book's hart and its code are those that the segment began with
abbrev pub IsCurrent : BookValue → SegmentState → Type 0
IsCurrent b s = (hart_in_book b s.hart ≡ Some (hart_of s.slot)) × (s.code ≡ book_code b)

-- an empty segment of hart h, as the hart is in the book
pub record IsFresh (b : BookValue) (h : ℕ) (s : SegmentState) : Type 0 where
  pub hart : s.hart ≡ h
  pub current : IsCurrent b s
  pub local : s.local ≡ 0
  pub reached : s.reached ≡ s.slot
  pub refuse : s.refuse ≡ false

-- the segment was the book's, with local steps; the book has one more entry, with its choices done,
-- and the segment is empty
pub record IsPresented (b : BookValue) (s : SegmentState) (new_b : BookValue) (new_s : SegmentState) : Type 0 where
  pub there : s.hart < length b.inputs
  pub current : IsCurrent b s
  pub walked : walk (segments_memory s.code) s.local (hart_of s.slot) ≡ Some (hart_of s.reached)
  pub book : new_b ≡ record b { history = b.history ++ entry s.hart s.local s.refuse ∷ [] }
  pub world : world_of new_b ≡ run (world_of b) (entry_choices (entry s.hart s.local s.refuse))
  pub segment : IsFresh new_b s.hart new_s

-- the reason why a book gives no segment of hart h
abbrev pub GivesNone : BookValue → ℕ → SegmentFault → Type 0
GivesNone b h segment.NoHart = length b.inputs ≤ h
GivesNone b h segment.Memory = h < length b.inputs

-- the reason why a book does not take a segment
abbrev pub RefusesToTake : BookValue → SegmentState → PresentFault → Type 0
RefusesToTake b s present.NoHart = length b.inputs ≤ s.hart
RefusesToTake b s present.Stale = (s.hart < length b.inputs) × (IsCurrent b s → ⊥)
RefusesToTake b s present.Memory = (s.hart < length b.inputs) × IsCurrent b s
