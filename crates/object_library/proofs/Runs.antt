-- What holds in every run of an image holds in every run of one that is the same; and a bound may
-- be larger.
use Rattle.std.proofs.Common.{◌≡◌, ◌≤◌, ℕ, List, length, sym, subst, arith}
use Rattle.image.specs.Image.{ImageValue}
use Rattle.hart_step.specs.Hart.{HartValue}
use Rattle.machine.specs.World.{World, run}
use Rattle.machine.specs.declared.choice.Choice.{Choice}
use Rattle.object_library.specs.Images.{IsSame}
use Rattle.machine.specs.Chosen.{refusals}
use Rattle.object_library.specs.Rules.{EveryRun, EndsAfter}
use Rattle.object_library.proofs.CellLemmas.{same_start}

module _ (IsMeant : ℕ → Type 0) (Rule : List ℕ → List Choice → List HartValue → Type 0) (m n : ImageValue) where
  pub same_runs : IsSame m n → EveryRun IsMeant n Rule → EveryRun IsMeant m Rule
  same_runs same every inputs choices meant fits there =
      subst (λ (w : World). Rule inputs choices (run w choices).harts) (sym (same_start m n inputs same)) (every inputs choices meant fits there)

  pub equal_runs : m ≡ n → EveryRun IsMeant n Rule → EveryRun IsMeant m Rule
  equal_runs same every = subst (λ (i : ImageValue). EveryRun IsMeant i Rule) (sym same) every

-- a hart that has exited after some choices of its own has exited after more
pub wider_ends : (IsMeant : ℕ → Type 0) (m : ImageValue) (exact wide : ℕ → ℕ → ℕ) → ((n r : ℕ) → exact n r ≤ wide n r) → EveryRun IsMeant m (EndsAfter exact)
    → EveryRun IsMeant m (EndsAfter wide)
wider_ends IsMeant m exact wide less every inputs choices meant fits there h d lt many =
    every inputs choices meant fits there h d lt (omega (arith, less (length inputs) (refusals choices h), many))
