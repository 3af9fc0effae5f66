-- The debugger's prompt.
use Rattle.std.specs.Prelude.{ℕ, List, ◌++◌, codes}
use Rattle.std.specs.Fmt.{decimal}

-- `3 of 26> `
abbrev pub prompt : ℕ → ℕ → List ℕ
prompt k n = decimal k ++ (codes " of " ++ (decimal n ++ codes "> "))
