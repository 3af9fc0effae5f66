-- A run that is on its way.
use Rattle.std.specs.Prelude.{◌≡◌, ℕ, List, ◌++◌}
use Rattle.machine.specs.Chosen.{is_chosen}
use Rattle.machine.specs.World.{World, run}
use Rattle.machine.specs.declared.choice.Choice.{Choice}
use Rattle.sched_run.specs.Harts.{Harts}

-- of all choices those that were taken, whose run has led from a world to another, come before
-- those that are left
pub record Partway (all left : List Choice) (old now : World) (chosen : Harts) : Type 0 where
  pub done : List Choice
  pub order : all ≡ done ++ left
  pub led : now ≡ run old done
  pub told : (k : ℕ) → chosen k ≡ is_chosen done k

-- a run that was on its way has come further: from a world where these choices are left to one where
-- those are left
abbrev pub LeadsOn : List Choice → World → Harts → List Choice → World → Harts → Type 0
LeadsOn left before chosen next after more =
    (all : List Choice) (old : World) → Partway all left old before chosen → Partway all next old after more
