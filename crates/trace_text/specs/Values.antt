-- The values of the members of a trace's lines.
use Rattle.std.specs.Prelude.{ℕ, List, [], ◌∷◌, ◌++◌, codes, decimal, Option, Some, None}
use Rattle.json.specs.Print.{quoted}
use Rattle.trace_text.specs.Composites.{member, object}
use Rattle.trace_text.specs.Scalars.{number_or_null}
use Rattle.isa_table.specs.declared.instr.Instr.{Instr}
use Rattle.isa_names.specs.Names.{abi}
use Rattle.isa_disasm.specs.Lines.{line_text}
use Rattle.outcome.specs.Ends.{cause_name}
use Rattle.hart_step.specs.declared.hart.Cause.{Cause}
use Rattle.hart_step.specs.declared.hart.HartState.{HartState}
use Rattle.hart_step.specs.declared.hart.HartState.TheVariants.{Running, Exited, Faulted}
use Rattle.hart_step.specs.declared.data_access.AccessKind.{AccessKind}
use Rattle.hart_step.specs.declared.data_access.AccessKind.TheVariants.{Load, Store, LoadReserved, StoreConditional, Amo}
use Rattle.trace_steps.specs.declared.told.ToldAccess.{ToldAccess}
use Rattle.trace_steps.specs.declared.told.Written.{Written}

-- what an instruction does with the bytes that it accesses
unfoldable pub kind_name : AccessKind → List ℕ
kind_name Load = codes "load"
kind_name Store = codes "store"
kind_name LoadReserved = codes "load-reserved"
kind_name StoreConditional = codes "store-conditional"
kind_name Amo = codes "amo"

-- a cause's name, as the lines of harts' ends have it
unfoldable pub cause_text : Cause → List ℕ
cause_text cause = cause_name cause

-- a name, which has nothing to escape, between quotes
abbrev pub name_value : List ℕ → List ℕ
name_value name = 34 ∷ (name ++ 34 ∷ [])

-- the canonical line of the word at an address, `null` where it is no instruction or there is none
unfoldable pub text_value : ℕ → Option ℕ → Option Instr → List ℕ
text_value pc None instr = codes "null"
text_value pc (Some word) None = codes "null"
text_value pc (Some word) (Some instr) = quoted (line_text pc word)

-- what was accessed
unfoldable pub access_value : Option ToldAccess → List ℕ
access_value None = codes "null"
access_value (Some a) = object (
    member (codes "kind") (name_value (kind_name a.kind))
    ∷ member (codes "address") (decimal a.address)
    ∷ member (codes "size") (decimal a.size)
    ∷ member (codes "before") (number_or_null a.before)
    ∷ member (codes "after") (number_or_null a.after)
    ∷ [])

-- what register was written, by its name, and its value
unfoldable pub register_value : Option Written → List ℕ
register_value None = codes "null"
register_value (Some w) = object (
    member (codes "name") (name_value (abi w.register))
    ∷ member (codes "value") (decimal w.value)
    ∷ [])

-- whether a hart runs
unfoldable pub end_value : HartState → List ℕ
end_value Running = object (member (codes "state") (name_value (codes "running")) ∷ [])
end_value (Exited status) = object (
    member (codes "state") (name_value (codes "exited"))
    ∷ member (codes "status") (decimal status)
    ∷ [])
end_value (Faulted cause) = object (
    member (codes "state") (name_value (codes "faulted"))
    ∷ member (codes "cause") (name_value (cause_text cause))
    ∷ [])
