-- Entries that end with a shared step, or with the last choice of their hart or of all.
use Rattle.std.specs.Prelude.{◌≡◌, ◌⊎◌, ℕ, ◌+◌, List, [], ◌∷◌, ◌++◌, length, Option, Some, slice_get}
use Rattle.image.specs.Image.{ImageValue}
use Rattle.mem_store.specs.Memory.{Memory}
use Rattle.mem_store.specs.Image.{image_memory}
use Rattle.hart_step.specs.Hart.{HartValue}
use Rattle.hart_local.specs.CodeMemory.{code_in}
use Rattle.hart_local.specs.LocalStep.{class_of, walk}
use Rattle.hart_local.specs.declared.stepping.Class.TheVariants.{Shared}
use Rattle.machine.specs.Chosen.{own}
use Rattle.machine.specs.Start.{started}
use Rattle.machine.specs.World.{run}
use Rattle.machine.specs.declared.choice.Choice.{Choice}
use Rattle.history.specs.declared.entry.Entry.{Entry}
use Rattle.history.specs.History.{entry_choices}
use Rattle.thread_run.specs.Total.{IsUsedUp}

-- from a start, a hart takes this many local steps; then its next step is shared, or is the last of
-- its budget or of the total, after its own choices and those of all harts before
pub record IsWhole (code : Memory) (budget : ℕ) (total : Option ℕ) (own_before all_before : ℕ) (start : Option HartValue) (local : ℕ) : Type 0 where
  pub hart : HartValue
  pub there : start ≡ Some hart
  pub reached : HartValue
  pub walked : walk code local hart ≡ Some reached
  pub ends : (class_of code reached ≡ Shared) ⊎ (own_before + local + 1 ≡ budget) ⊎ IsUsedUp total (all_before + local + 1)

-- each entry is whole, after these choices and the earlier entries
abbrev pub AreWhole : ImageValue → List ℕ → ℕ → Option ℕ → List Choice → List Entry → Type 0
AreWhole image inputs budget total before [] = Unit {0}
AreWhole image inputs budget total before (e ∷ entries) =
    IsWhole (code_in (image_memory image)) budget total (own before e.hart) (length before) (slice_get (run (started image inputs) before).harts e.hart) e.local
    × AreWhole image inputs budget total (before ++ entry_choices e) entries
