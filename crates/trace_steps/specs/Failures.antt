-- Why a store-conditional fails.
use Rattle.std.specs.Prelude.{ℕ, ◌==◌, Bool, Option, Some, None, if◌then◌else◌}
use Rattle.hart_step.specs.declared.data_access.AccessKind.{AccessKind}
use Rattle.hart_step.specs.declared.data_access.AccessKind.TheVariants.{Load, Store, LoadReserved, StoreConditional, Amo}
use Rattle.hart_step.specs.declared.hart.HartState.{HartState}
use Rattle.hart_step.specs.declared.hart.HartState.TheVariants.{Running, Exited, Faulted}
use Rattle.trace_steps.specs.declared.ending.Ending.{Ending}
use Rattle.trace_steps.specs.declared.failure.Failure.{Failure}
use Rattle.trace_steps.specs.declared.failure.Failure.TheVariants as failure
use Rattle.trace_steps.specs.declared.told.Told.{Told}
use Rattle.trace_steps.specs.declared.told.ToldAccess.{ToldAccess}

-- why hart h has no reservation, by the step that ended its last one
abbrev pub without_reservation : ℕ → Option Ending → Failure
without_reservation h None = failure.NotReserved
without_reservation h (Some step) = if step.hart == h then failure.NotReserved else failure.Ended step

-- of a hart with a reservation of a word
abbrev pub with_reservation : ℕ → ℕ → Bool → Option Failure
with_reservation word address refuse =
    if word == address then (if refuse then Some failure.Refused else None) else Some (failure.OtherWord word)

-- why a store-conditional of hart h into the word at an address fails, by the hart's reservation before
-- it; none where it stores
abbrev pub sc_failure : Option ℕ → ℕ → Bool → ℕ → Option Ending → Option Failure
sc_failure None address refuse h last = Some (without_reservation h last)
sc_failure (Some word) address refuse h last = with_reservation word address refuse

-- the same of an access of this kind: no other fails
abbrev pub failure_of_kind : AccessKind → Option Failure → Option Failure
failure_of_kind Load why = None
failure_of_kind Store why = None
failure_of_kind LoadReserved why = None
failure_of_kind StoreConditional why = why
failure_of_kind Amo why = None

-- the same of a step, where it accesses memory
abbrev pub failure_accessing : Option ToldAccess → Bool → ℕ → Option ℕ → Option Ending → Option Failure
failure_accessing None refuse h held last = None
failure_accessing (Some a) refuse h held last = failure_of_kind a.kind (sc_failure held a.address refuse h last)

-- the same where the instruction is no fault
abbrev pub failure_unless_fault : HartState → Option Failure → Option Failure
failure_unless_fault Running why = why
failure_unless_fault (Exited status) why = why
failure_unless_fault (Faulted cause) why = None

-- why the store-conditional of a choice failed, by what its hart had reserved before it and by the step
-- that ended the hart's last reservation
abbrev pub told_failure : Told → Option ℕ → Option Ending → Option Failure
told_failure told held last =
    failure_unless_fault told.state (failure_accessing told.access told.choice.refuse told.choice.hart held last)
