-- The bytes that a step accesses, and the watches that it hits.
use Rattle.std.specs.Prelude.{ℕ, ◌+◌, Bool, not, ◌&&◌, ◌||◌, ◌==◌, nat_le, nat_lt, if◌then◌else◌, Option, Some, None, List, [], ◌∷◌, slice_index}
use Rattle.std.specs.Option.{option_or}
use Rattle.mem_store.specs.Memory.{Memory}
use Rattle.mem_store.specs.Access.{peeked}
use Rattle.hart_reservations.specs.Marks.{word_of}
use Rattle.hart_step.specs.declared.data_access.Access.{Access}
use Rattle.debug_session.specs.Touched.{reads}
use Rattle.debug_session.specs.Words.{byte_or_zero}
use Rattle.debug_session.specs.declared.stop.WatchKind.{WatchKind}
use Rattle.debug_session.specs.declared.stop.WatchKind.TheVariants as kinds
use Rattle.gdb_moves.specs.declared.span.Span.{Span}
use Rattle.gdb_moves.specs.declared.stop.StopReason.{StopReason}
use Rattle.gdb_moves.specs.declared.stop.StopReason.TheVariants as stops
use Rattle.gdb_moves.specs.declared.watch.Watch.{Watch}

-- the byte at an address as a debugger shows it, 0 if it is not mapped
abbrev pub shown_byte : Memory → ℕ → ℕ
shown_byte m a = byte_or_zero (peeked m a)

-- the bytes of the word at an address
abbrev pub shown_word : Memory → ℕ → List ℕ
shown_word m a =
    shown_byte m a ∷ shown_byte m (a + 1) ∷ shown_byte m (a + 2) ∷ shown_byte m (a + 3) ∷ []

-- the bytes of the word that an access is in
abbrev pub word_shown : Memory → Option Access → List ℕ
word_shown m None = 0 ∷ 0 ∷ 0 ∷ 0 ∷ []
word_shown m (Some a) = shown_word m (word_of a.address)

-- the bytes that a watch and an access have in common
abbrev pub common : Watch → Access → Span
common w a = record {
  from = if nat_lt w.address a.address then a.address else w.address;
  to = if nat_lt (w.address + w.length) (a.address + a.size)
      then w.address + w.length else a.address + a.size;
}

-- whether there is no address in a span
abbrev pub is_empty : Span → Bool
is_empty s = nat_le s.to s.from

-- whether an address is in a span
abbrev pub is_in : Span → ℕ → Bool
is_in s a = nat_le s.from a && nat_lt a s.to

-- whether byte k of the word at an address is in a span, and differs between two lists of its bytes
abbrev pub changed_at : Span → ℕ → List ℕ → List ℕ → ℕ → Bool
changed_at s word before after k =
    is_in s (word + k) && not (slice_index before k == slice_index after k)

-- whether one of the bytes of a word is in a span and differs
abbrev pub changes : Span → ℕ → List ℕ → List ℕ → Bool
changes s word before after =
    changed_at s word before after 0 || (changed_at s word before after 1
    || (changed_at s word before after 2 || changed_at s word before after 3))

-- the hit of a watch of this kind, which has these bytes in common with an access, if it is one;
-- `before` and `after` are the bytes of the access's word
abbrev pub hit_in : WatchKind → Span → Access → List ℕ → List ℕ → Option StopReason
hit_in kinds.Change s a before after =
    if changes s (word_of a.address) before after then Some (stops.Change s.from) else None
hit_in kinds.Read s a before after =
    if reads a.kind && not (is_empty s) then Some (stops.Read s.from) else None
hit_in kinds.Access s a before after = if is_empty s then None else Some (stops.Access s.from)

-- the hit of a watch
abbrev pub hit_of : Watch → Access → List ℕ → List ℕ → Option StopReason
hit_of w a before after = hit_in w.kind (common w a) a before after

-- the hit of the first of some watches that is hit
abbrev pub first_hit : List Watch → Access → List ℕ → List ℕ → Option StopReason
first_hit [] a before after = None
first_hit (w ∷ ws) a before after =
    option_or (hit_of w a before after) (first_hit ws a before after)

-- the hit of watches by an access, if there is an access
abbrev pub watch_hit : List Watch → Option Access → List ℕ → List ℕ → Option StopReason
watch_hit ws None before after = None
watch_hit ws (Some a) before after = first_hit ws a before after
