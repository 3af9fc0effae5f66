use Rattle.image.specs.Image.{ImageValue}
use Rattle.explore_sites.specs.Cells.{AreCanonical}
use Rattle.explore_space.specs.Places.{AreUnlike}
use Rattle.explore_space.specs.declared.shared.Shared.{Shared}
use Rattle.explore_space.proofs.SameLemmas.{AllSoFar}
use Rattle.explore_space.proofs.parts.add_shared.Given as goal

-- nothing so far is the same, where cells are canonical
abbrev pub invariant-shareds : goal.invariant-shareds
invariant-shareds g l = AllSoFar (λ (known : Shared _). (image : ImageValue) → AreCanonical image known.cells.items
    → AreCanonical image l.shared.cells.items → AreUnlike image known l.shared) l.shareds.items l.id
