-- The printed lines of harts' ends, and of the verdict on them.
use Rattle.std.specs.Prelude.{ℕ, ◌+◌, List, [], ◌∷◌, ◌++◌, codes, Option, Some, None}
use Rattle.std.specs.Fmt.{decimal}
use Rattle.hart_step.specs.declared.hart.Cause.{Cause}
use Rattle.hart_step.specs.declared.hart.Cause.TheVariants.{FetchAccess, Illegal, LoadMisaligned, LoadAccess, StoreMisaligned, StoreAccess, JumpMisaligned, BadCall, Break}
use Rattle.hart_step.specs.declared.hart.HartState.{HartState}
use Rattle.hart_step.specs.declared.hart.HartState.TheVariants.{Running, Exited, Faulted}
use Rattle.hart_step.specs.Hart.{HartValue}
use Rattle.isa_names.specs.Digits.{word_text}
use Rattle.machine.specs.declared.choice.Choice.{Choice}
use Rattle.object_library.specs.declared.kind.Kind.{Kind}
use Rattle.object_library.specs.declared.verdict.Verdict.{Verdict}
use Rattle.object_library.specs.Judging.{verdict_of}
use Rattle.object_library.specs.Names.{verdict_name}

-- a cause's name
abbrev pub cause_name : Cause → List ℕ
cause_name FetchAccess = codes "FetchAccess"
cause_name Illegal = codes "Illegal"
cause_name LoadMisaligned = codes "LoadMisaligned"
cause_name LoadAccess = codes "LoadAccess"
cause_name StoreMisaligned = codes "StoreMisaligned"
cause_name StoreAccess = codes "StoreAccess"
cause_name JumpMisaligned = codes "JumpMisaligned"
cause_name BadCall = codes "BadCall"
cause_name Break = codes "Break"

-- the result registers: a0 is x10, a1 is x11
abbrev pub a0_of : HartValue → ℕ
a0_of hart = hart.registers 10

abbrev pub a1_of : HartValue → ℕ
a1_of hart = hart.registers 11

-- a hart's state, with the registers or the address that belong to it
abbrev pub state_text : HartState → HartValue → List ℕ
state_text Running hart = codes " running pc " ++ word_text hart.pc
state_text (Exited status) hart =
    codes " exited a0 " ++ (word_text (a0_of hart) ++ (codes " a1 " ++ word_text (a1_of hart)))
state_text (Faulted cause) hart =
    codes " faulted " ++ (cause_name cause ++ (codes " pc " ++ word_text hart.pc))

-- a hart's line, without LF
abbrev pub end_line : ℕ → HartValue → List ℕ
end_line number hart = codes "hart " ++ (decimal number ++ state_text hart.state hart)

-- the lines of harts that are numbered from a number on, each ended by LF
abbrev pub ends_of : ℕ → List HartValue → List ℕ
ends_of number [] = []
ends_of number (hart ∷ harts) = end_line number hart ++ 10 ∷ ends_of (number + 1) harts

-- the verdict on harts, if there is a rule
abbrev pub verdict_on : Option Kind → List ℕ → List Choice → List HartValue → Option Verdict
verdict_on None inputs choices harts = None
verdict_on (Some kind) inputs choices harts = Some (verdict_of kind inputs choices harts)

-- the verdict's line, with LF
abbrev pub verdict_line : Option Verdict → List ℕ
verdict_line None = []
verdict_line (Some verdict) = codes "verdict " ++ (verdict_name verdict ++ 10 ∷ [])

-- the harts' lines, and then that of the verdict
abbrev pub lines_of_ends : Option Verdict → List HartValue → List ℕ
lines_of_ends verdict harts = ends_of 0 harts ++ verdict_line verdict
