-- The choices in which a hart reserves a word.
use Rattle.std.specs.Prelude.{ℕ, ◌==◌, Option, Some, None, slice_get, if◌then◌else◌}
use Rattle.hart_reservations.specs.Marks.{names}
use Rattle.hart_step.specs.declared.data_access.Access.{Access}
use Rattle.machine.specs.World.{step}
use Rattle.debug_session.specs.Accessed.{accessed}
use Rattle.debug_session.specs.Wishes.{Wish}

-- the word of an access, if it is reserved
abbrev pub reserved_by : Option ℕ → Option Access → Option ℕ
reserved_by reserved None = None
reserved_by reserved (Some a) = if names reserved a.address then Some a.address else None

-- the word of hart h's choice that it has reserved behind it, if it has
unfoldable pub reserves : ℕ → Wish ℕ
reserves h w c =
    if c.hart == h
    then reserved_by ((step w c).reserved h) (accessed w (slice_get w.harts c.hart)) else None

-- the word that a search has found, or 0
abbrev pub found_word : Option ℕ → ℕ
found_word None = 0
found_word (Some word) = word
