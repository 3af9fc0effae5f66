-- The lines of the bounds on harts' own steps.
use Rattle.std.specs.Prelude.{ℕ, ◌+◌, List, [], ◌∷◌, ◌++◌, codes}
use Rattle.std.specs.Fmt.{decimal}
use Rattle.explore_bounds.specs.declared.bound.Bound.{Bound}
use Rattle.explore_bounds.specs.declared.bound.Bound.TheVariants.{After, Never}

-- what is said of a hart
abbrev pub bound_words : Bound → List ℕ
bound_words (After steps) = codes " has stopped after " ++ (decimal steps ++ codes " own steps\n")
bound_words Never = codes " has no bound: it may wait for ever\n"

abbrev pub bound_line : ℕ → Bound → List ℕ
bound_line hart bound = codes "hart " ++ (decimal hart ++ bound_words bound)

-- the lines of harts, from a number on
abbrev pub bound_lines : ℕ → List Bound → List ℕ
bound_lines hart [] = []
bound_lines hart (bound ∷ more) = bound_line hart bound ++ bound_lines (hart + 1) more
