-- Results of a part of a statement, with the kind of its fault.
use Rattle.std.specs.Prelude.{◌≡◌, Result, Ok, Err}
use Rattle.asm_statement.specs.declared.fault.FaultKind.{FaultKind}
use Rattle.asm_parse.specs.declared.refusal.Refusal.{Refusal}
use Rattle.asm_parse.specs.declared.refusal.Refusal.TheVariants as refusals

-- the statement's fault is of the expected kind; any result may be out of memory instead
abbrev pub IsRefused : {Y : Type 0} → Refusal → Result Y FaultKind → Type 0
IsRefused (refusals.Wrong kind) expected = expected ≡ Err kind
IsRefused refusals.Memory expected = Unit {0}

-- the result of a part of a statement, as a view gives it, is the expected one, or out of memory
abbrev pub Tells : {X Y : Type 0} → (X → Y) → Result X Refusal → Result Y FaultKind → Type 0
Tells view (Ok value) expected = expected ≡ Ok (view value)
Tells view (Err refusal) expected = IsRefused refusal expected
