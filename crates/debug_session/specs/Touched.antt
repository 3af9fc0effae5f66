-- Accesses that take place.
use Rattle.std.specs.Prelude.{ℕ, Bool, true, false, not, ◌&&◌, if◌then◌else◌, Option, Some, None, slice_get}
use Rattle.hart_reservations.specs.Marks.{names}
use Rattle.hart_step.specs.Hart.{HartValue}
use Rattle.hart_step.specs.declared.data_access.Access.{Access}
use Rattle.hart_step.specs.declared.data_access.AccessKind.{AccessKind}
use Rattle.hart_step.specs.declared.data_access.AccessKind.TheVariants.{Load, Store, LoadReserved, StoreConditional, Amo}
use Rattle.hart_step.specs.declared.hart.HartState.{HartState}
use Rattle.hart_step.specs.declared.hart.HartState.TheVariants.{Running, Exited, Faulted}
use Rattle.machine.specs.World.{World, step}
use Rattle.machine.specs.declared.choice.Choice.{Choice}
use Rattle.debug_session.specs.Accessed.{accessed}

-- whether an access reads
abbrev pub reads : AccessKind → Bool
reads Load = true
reads LoadReserved = true
reads Amo = true
reads Store = false
reads StoreConditional = false

-- an access if it reads
abbrev pub if_reads : Option Access → Option Access
if_reads None = None
if_reads (Some a) = if reads a.kind then Some a else None

-- whether a store-conditional of choice c to an address succeeds in a world, if it does not fault
abbrev pub sc_stores : World → Choice → ℕ → Bool
sc_stores w c a = not c.refuse && names (w.reserved c.hart) a

-- whether an access of this kind by choice c in a world takes place, if it does not fault: a
-- store-conditional does only if it succeeds
abbrev pub takes_place : AccessKind → World → Choice → ℕ → Bool
takes_place Load w c a = true
takes_place LoadReserved w c a = true
takes_place Amo w c a = true
takes_place Store w c a = true
takes_place StoreConditional w c a = sc_stores w c a

-- an access if it takes place
abbrev pub if_place : World → Choice → Option Access → Option Access
if_place w c None = None
if_place w c (Some a) = if takes_place a.kind w c a.address then Some a else None

-- the access of choice c in the world before it, if its step has one that takes place
abbrev pub touched : World → Choice → Option Access
touched w c = if_place w c (accessed w (slice_get w.harts c.hart))

-- whether a hart in a state runs
abbrev pub state_runs : HartState → Bool
state_runs Running = true
state_runs (Exited status) = false
state_runs (Faulted cause) = false

-- whether there is a hart and it runs
abbrev pub hart_runs : Option HartValue → Bool
hart_runs None = false
hart_runs (Some h) = state_runs h.state

-- an access if the hart runs after it, so that its step has not faulted
abbrev pub if_runs : Option HartValue → Option Access → Option Access
if_runs hart access = if hart_runs hart then access else None

-- the access that choice c makes in the world before it, if it makes one
abbrev pub made : World → Choice → Option Access
made w c = if_runs (slice_get (step w c).harts c.hart) (touched w c)
