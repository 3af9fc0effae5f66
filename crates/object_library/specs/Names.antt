-- The names of kinds and of verdicts.
use Rattle.std.specs.Prelude.{ℕ, List, codes}
use Rattle.object_library.specs.declared.kind.Kind.{Kind}
use Rattle.object_library.specs.declared.kind.Kind.TheVariants.{Swap, Add, LrSc, AdoptCommit, Rounds}
use Rattle.object_library.specs.declared.verdict.Verdict.{Verdict}
use Rattle.object_library.specs.declared.verdict.Verdict.TheVariants.{Kept, Broken}

-- a kind's name
abbrev pub object_name : Kind → List ℕ
object_name Swap = codes "swap"
object_name Add = codes "add"
object_name LrSc = codes "lrsc"
object_name AdoptCommit = codes "adopt"
object_name Rounds = codes "rounds"

-- a verdict's name
abbrev pub verdict_name : Verdict → List ℕ
verdict_name Kept = codes "kept"
verdict_name Broken = codes "broken"
