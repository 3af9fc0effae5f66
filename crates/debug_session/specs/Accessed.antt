-- The data access of a step.
use Rattle.std.specs.Prelude.{Option, Some, None}
use Rattle.hart_step.specs.Hart.{HartValue}
use Rattle.hart_step.specs.Effect.{site}
use Rattle.hart_step.specs.Locality.{access_of}
use Rattle.hart_step.specs.declared.data_access.Access.{Access}
use Rattle.machine.specs.World.{World}

-- the data access of a hart's next step in a world, if it has one
abbrev pub accessed : World → Option HartValue → Option Access
accessed w None = None
accessed w (Some h) = access_of (site h w.memory w.reserved)
