-- The choices of all harts together, and a total of them.
use Rattle.std.specs.Prelude.{◌≡◌, ℕ, ◌+◌, ◌≤◌, length, Option, Some, None}
use Rattle.history.specs.History.{expanded}
use Rattle.thread_book.specs.Book.{BookValue}

-- the number of choices of all harts in a book
abbrev pub all_choices : BookValue → ℕ
all_choices b = length (expanded b.history)

-- a total, where there is one, is at least this many choices
abbrev pub Allows : Option ℕ → ℕ → Type 0
Allows None count = Unit {0}
Allows (Some n) count = count ≤ n

-- there is a total, and it is this many choices
abbrev pub IsUsedUp : Option ℕ → ℕ → Type 0
IsUsedUp None count = ⊥
IsUsedUp (Some n) count = count ≡ n

-- what this many choices leave of a total; nothing where there is none
abbrev pub IsRoom : Option ℕ → ℕ → Option ℕ → Type 0
IsRoom None count None = Unit {0}
IsRoom None count (Some room) = ⊥
IsRoom (Some n) count None = ⊥
IsRoom (Some n) count (Some room) = count + room ≡ n
