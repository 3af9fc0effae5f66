-- What is seen of a choice.
use Rattle.std.proofs.Common.{◌≡◌, ℕ, Bool, List, Option, Some, refl, sym}
use Rattle.std.specs.List.{slice_get}
use Rattle.hart_step.specs.Hart.{HartValue}
use Rattle.hart_step.specs.declared.data_access.Access.{Access}
use Rattle.hart_step.specs.declared.hart.Cause.{Cause}
use Rattle.machine.specs.World.{World, step}
use Rattle.machine.specs.declared.choice.Choice.{Choice}
use Rattle.gdb_moves.specs.Points.{Marked}
use Rattle.debug_session.specs.Touched.{touched, hart_runs}
use Rattle.gdb_moves.specs.Touches.{word_shown}
use Rattle.gdb_moves.specs.Sights.{next_pc, fault_of, stands_of, touches_in, seen_at}
use Rattle.gdb_moves.specs.declared.seen.Seen.{Seen}
use Rattle.gdb_moves.specs.declared.stop.StopReason.{StopReason}

-- the parts of it, by the hart before and after the step
pub seen_is : (m : Marked) (w v : World) (c : Choice) (old new : HartValue)
    (access : Option Access) (before after : List ℕ)
    (ran : Bool) (stands touches : Option StopReason) (fault : Option Cause) (next : Option ℕ)
    → v ≡ step w c → slice_get w.harts c.hart ≡ Some old → slice_get v.harts c.hart ≡ Some new
    → access ≡ touched w c → before ≡ word_shown w.memory access
    → after ≡ word_shown v.memory access
    → ran ≡ hart_runs (Some old) → stands ≡ stands_of m (Some old)
    → touches ≡ touches_in m.watches (Some new) access before after
    → fault ≡ fault_of ran (Some new) → next ≡ next_pc (Some new)
    → ◌≡◌ {A = Seen}
    (record { ran = ran; stands = stands; touches = touches; fault = fault; next = next })
    (seen_at m w c)
unfolding seen_at
seen_is m w v c old new access before after
    ran stands touches fault next ended was is a b d r s t f n =
    rw (n, f, r, s, t, d, b, a, sym ended, was, is) refl
