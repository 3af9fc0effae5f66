-- A verdict as a value of JSON.
use Rattle.std.specs.Prelude.{ℕ, List, codes, Option, Some, None}
use Rattle.object_library.specs.declared.verdict.Verdict.{Verdict}
use Rattle.object_library.specs.Names.{verdict_name}
use Rattle.trace_text.specs.Values.{name_value}

-- a verdict's word as a string, or `null` where no rule is judged
unfoldable pub verdict_value : Option Verdict → List ℕ
verdict_value None = codes "null"
verdict_value (Some verdict) = name_value (verdict_name verdict)
