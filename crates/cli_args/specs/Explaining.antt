-- When faults are explained.
use Rattle.std.specs.Prelude.{ℕ, List, Option, Some, None, codes, if◌then◌else◌}
use Rattle.std.specs.Str.{bytes_eq}
use Rattle.cli_args.specs.declared.explain.Explain.{Explain}
use Rattle.cli_args.specs.declared.explain.Explain.TheVariants.{Auto, Always, Never}

-- what a value of `--explain` says
abbrev pub explain_of : List ℕ → Option Explain
explain_of value =
    if bytes_eq value (codes "auto") then Some Auto
    else (if bytes_eq value (codes "always") then Some Always
    else (if bytes_eq value (codes "never") then Some Never else None))
