use Rattle.std.proofs.Common.{subst}
use Rattle.thread_book.specs.Book.{BookValue, IsSoundBook}
use Rattle.thread_book.proofs.book.each_book_is_sound.Goals as goal

pub returns : goal.returns
returns g c = subst (λ (b : BookValue). IsSoundBook b) c.book.view_is c.book.invariant.sound
