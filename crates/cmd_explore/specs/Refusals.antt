-- Whether store-conditionals are refused that could succeed, by a text.
use Rattle.std.specs.Prelude.{◌≡◌, ℕ, true, false, List, Option, Some, None, codes}
use Rattle.std.specs.Borrow.{Bor}
use Rattle.std.specs.Str.{bytes_eq}
use Rattle.explore_space.specs.declared.meant.ScRefusals.{ScRefusals}
use Rattle.explore_space.specs.declared.meant.ScRefusals.TheVariants.{Also, Never}

-- `never`, and nothing else
abbrev pub ScRefusalsSaid : List ℕ → Option ScRefusals → Type 0
ScRefusalsSaid text (Some Also) = ⊥
ScRefusalsSaid text (Some Never) = bytes_eq text (codes "never") ≡ true
ScRefusalsSaid text None = bytes_eq text (codes "never") ≡ false

-- the same; they are refused too if there is no text
abbrev pub MeansScRefusals : Option (Bor (List ℕ)) → Option ScRefusals → Type 0
MeansScRefusals None refusals = refusals ≡ Some Also
MeansScRefusals (Some text) refusals = ScRefusalsSaid text.now refusals
