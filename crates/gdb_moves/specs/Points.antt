-- Breakpoints and watches.
use Rattle.std.specs.Prelude.{ℕ, Bool, true, false, not, ◌&&◌, ◌==◌, if◌then◌else◌, List, [], ◌∷◌, ◌++◌, filter}
use Rattle.std.specs.List.{list_any}
use Rattle.debug_session.specs.Points.{with_address, without_address}
use Rattle.debug_session.specs.declared.stop.WatchKind.{WatchKind}
use Rattle.debug_session.specs.declared.stop.WatchKind.TheVariants.{Change, Read, Access}
use Rattle.gdb_requests.specs.declared.request.Point.{Point}
use Rattle.gdb_requests.specs.declared.request.PointKind.{PointKind}
use Rattle.gdb_requests.specs.declared.request.PointKind.TheVariants as kinds
use Rattle.gdb_moves.specs.declared.watch.Watch.{Watch}
use Rattle.gdb_moves.specs.declared.points.Points.{Points}

-- the addresses of software and of hardware breakpoints, sorted, and the watches in order
pub record Marked : Type 0 where
  pub software : List ℕ
  pub hardware : List ℕ
  pub watches : List Watch

-- the points of the code as contracts see them
abbrev pub marked : {Z : Type 0} → Points Z → Marked
marked p = record {
  software = p.software.keys;
  hardware = p.hardware.keys;
  watches = p.watches.items;
}

-- whether two kinds are the same
abbrev pub is_same_kind : WatchKind → WatchKind → Bool
is_same_kind Change Change = true
is_same_kind Read Read = true
is_same_kind Access Access = true
is_same_kind one other = false

-- whether two watches are the same
abbrev pub same_watch : Watch → Watch → Bool
same_watch v w = is_same_kind v.kind w.kind && v.address == w.address && v.length == w.length

-- whether a watch is in
abbrev pub has_watch : List Watch → Watch → Bool
has_watch ws w = list_any (λ v. same_watch v w) ws

-- one more watch behind the others, unless it is in
abbrev pub with_watch : List Watch → Watch → List Watch
with_watch ws w = if has_watch ws w then ws else ws ++ w ∷ []

-- all watches but one
abbrev pub without_watch : List Watch → Watch → List Watch
without_watch ws w = filter (λ v. not (same_watch v w)) ws

-- a watch over n bytes
abbrev pub watch : WatchKind → ℕ → ℕ → Watch
watch kind a n = record { kind = kind; address = a; length = n }

-- one more point of a kind at an address, of a length
abbrev pub with_kind : PointKind → Marked → ℕ → ℕ → Marked
with_kind kinds.Software m a n = record m { software = with_address m.software a }
with_kind kinds.Hardware m a n = record m { hardware = with_address m.hardware a }
with_kind kinds.Write m a n = record m { watches = with_watch m.watches (watch Change a n) }
with_kind kinds.Read m a n = record m { watches = with_watch m.watches (watch Read a n) }
with_kind kinds.Access m a n = record m { watches = with_watch m.watches (watch Access a n) }

-- one more point
abbrev pub marked_with : Marked → Point → Marked
marked_with m p = with_kind p.kind m p.address p.length

-- without the point of a kind at an address, of a length
abbrev pub without_kind : PointKind → Marked → ℕ → ℕ → Marked
without_kind kinds.Software m a n = record m { software = without_address m.software a }
without_kind kinds.Hardware m a n = record m { hardware = without_address m.hardware a }
without_kind kinds.Write m a n = record m { watches = without_watch m.watches (watch Change a n) }
without_kind kinds.Read m a n = record m { watches = without_watch m.watches (watch Read a n) }
without_kind kinds.Access m a n = record m { watches = without_watch m.watches (watch Access a n) }

-- without a point
abbrev pub marked_without : Marked → Point → Marked
marked_without m p = without_kind p.kind m p.address p.length
