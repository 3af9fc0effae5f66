-- Copies of the machine at intervals.
use Rattle.std.specs.Prelude.{◌≡◌, ℕ, ◌*◌, List, take, slice_get}
use Rattle.std.specs.Option.{ForSome}
use Rattle.mem_paged.specs.declared.page_store.PageStore.{PageStore}
use Rattle.machine.specs.World.{World, run}
use Rattle.machine.specs.declared.machine.Machine.{Machine}
use Rattle.machine.specs.declared.choice.Choice.{Choice}
use Rattle.debug_session.specs.Paged.{paged_world}

-- machine i of a list is in the world after the first 256 times i choices
abbrev pub AreKept : {Z : Type 0} → World → List Choice → List (Machine (PageStore Z) Z) → Type 0
AreKept start choices machines =
    (i : ℕ) → ForSome (slice_get machines i)
    (λ m. paged_world m ≡ run start (take (i * 256) choices))
