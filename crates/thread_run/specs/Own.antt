-- The number of choices of a hart in a book.
use Rattle.std.specs.Prelude.{ℕ}
use Rattle.machine.specs.Chosen.{own}
use Rattle.history.specs.History.{expanded}
use Rattle.thread_book.specs.Book.{BookValue}

-- the number of choices of hart h in a book
abbrev pub own_choices : BookValue → ℕ → ℕ
own_choices b h = own (expanded b.history) h
