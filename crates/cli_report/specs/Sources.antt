-- A source that is one of two.
use Rattle.cli_report.specs.declared.either_source.EitherSource.{EitherSource}
use Rattle.cli_report.specs.declared.either_source.EitherSource.TheVariants.{First, Second}

-- what is said of the one that it is
abbrev pub by_source : {S T X : Type 0} → (S → X) → (T → X) → EitherSource S T → X
by_source first second (First s) = first s
by_source first second (Second t) = second t
