-- The book after a commit.
use Rattle.std.proofs.Common.{sym, subst}
use Rattle.history.specs.History.{entry}
use Rattle.thread_book.specs.Book.{BookValue, IsSoundBook}
use Rattle.thread_book.specs.Segment.{SegmentState}
use Rattle.thread_book.specs.Present.{IsPresented}
use Rattle.thread_book.proofs.PresentLemmas.{sound_more}

-- a sound book that takes a segment is sound
pub sound_after : (b new_b : BookValue) (s t : SegmentState) → IsPresented b s new_b t → IsSoundBook b → IsSoundBook new_b
sound_after b new_b s t p sound =
    subst (λ (x : BookValue). IsSoundBook x) (sym p.book) (sound_more b (entry s.hart s.local s.refuse) sound p.there)
