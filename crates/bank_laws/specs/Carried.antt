-- The access that a step carries out: its instruction's, unless it faults.
use Rattle.std.specs.Prelude.{ℕ, Option, Some, None}
use Rattle.mem_store.specs.Memory.{Memory}
use Rattle.mem_store.specs.Access.{fetched}
use Rattle.hart_reservations.specs.Marks.{word_of}
use Rattle.isa_table.specs.Decoded.{decoded}
use Rattle.isa_table.specs.declared.instr.Instr.{Instr}
use Rattle.hart_step.specs.Hart.{HartValue, Registers}
use Rattle.hart_step.specs.Fault.{fault}
use Rattle.hart_step.specs.Locality.{access_by}
use Rattle.hart_step.specs.declared.data_access.Access.{Access}
use Rattle.hart_step.specs.declared.data_access.AccessKind.{AccessKind}
use Rattle.hart_step.specs.declared.data_access.AccessKind.TheVariants.{Load, Store, LoadReserved, StoreConditional, Amo}
use Rattle.hart_step.specs.declared.hart.Cause.{Cause}
use Rattle.hart_step.specs.declared.hart.HartState.{HartState}
use Rattle.hart_step.specs.declared.hart.HartState.TheVariants.{Running, Exited, Faulted}
use Rattle.bank_laws.specs.Runs.{Act, Reads, Writes, Reserves, Tries, Touch}

-- an access, unless there is a fault
abbrev pub unless_fault : Option Cause → Option Access → Option Access
unless_fault None access = access
unless_fault (Some cause) access = None

-- the access of an instruction; none for a word that is no instruction
abbrev pub carried_by : Option Instr → Memory → Registers → ℕ → Option Access
carried_by None m x pc = None
carried_by (Some i) m x pc = unless_fault (fault i m x pc) (access_by i x)

-- the access of the fetched word, if the fetch succeeded
abbrev pub carried_at : Option ℕ → Memory → Registers → ℕ → Option Access
carried_at None m x pc = None
carried_at (Some word) m x pc = carried_by (decoded word) m x pc

-- the access of a hart over a memory; a stopped hart has none
abbrev pub carried_in : HartState → Memory → HartValue → Option Access
carried_in Running m h = carried_at (fetched m h.pc) m h.registers h.pc
carried_in (Exited status) m h = None
carried_in (Faulted cause) m h = None

-- what an access does with its word
abbrev pub act_of : AccessKind → Act
act_of Load = Reads
act_of Store = Writes
act_of LoadReserved = Reserves
act_of StoreConditional = Tries
act_of Amo = Writes

-- the word that an access touches, and how
abbrev pub touch_of : Option Access → Option Touch
touch_of None = None
touch_of (Some c) = Some (record { act = act_of c.kind; word = word_of c.address })
