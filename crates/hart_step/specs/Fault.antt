-- The fault of an instruction. Faults depend on registers and rights, never on bytes.
use Rattle.std.specs.Prelude.{ℕ, ◌+◌, ◌-◌, ◌%◌, ◌==◌, Option, Some, None, if◌then◌else◌}
use Rattle.mem_store.specs.Memory.{Memory, to_load, to_write, granted}
use Rattle.mem_store.specs.declared.store.AccessFault.{AccessFault}
use Rattle.mem_store.specs.declared.store.AccessFault.TheVariants as access
use Rattle.mem_store.specs.declared.store.FetchFault.{FetchFault}
use Rattle.mem_store.specs.declared.store.FetchFault.TheVariants as fetch
use Rattle.isa_table.specs.declared.instr.Instr.{Instr}
use Rattle.isa_table.specs.declared.instr.Instr.TheVariants.{Jal, Jalr, Branch, Load, Store, Ecall, Ebreak, LoadReserved, StoreConditional, Amo, Lui, Auipc, Immediate, Shift, Register, Fence}
use Rattle.hart_step.specs.Hart.{Registers}
use Rattle.hart_step.specs.Values.{wrap, is_taken, load_size, store_size}
use Rattle.hart_step.specs.declared.hart.Cause.{Cause}
use Rattle.hart_step.specs.declared.hart.Cause.TheVariants.{FetchAccess, Illegal, LoadMisaligned, LoadAccess, StoreMisaligned, StoreAccess, JumpMisaligned, BadCall, Break}

-- a load of n bytes: misaligned is checked before access
abbrev pub load_fault : Memory → ℕ → ℕ → Option Cause
load_fault m n address =
    if address % n == 0 then (if granted to_load m n address then None else Some LoadAccess) else Some LoadMisaligned

-- a store of n bytes, and a store-conditional or an AMO of 4
abbrev pub store_fault : Memory → ℕ → ℕ → Option Cause
store_fault m n address =
    if address % n == 0 then (if granted to_write m n address then None else Some StoreAccess) else Some StoreMisaligned

-- a jump or a taken branch
abbrev pub jump_fault : ℕ → Option Cause
jump_fault target = if target % 4 == 0 then None else Some JumpMisaligned

-- the address with bit 0 cleared, the target of JALR
abbrev pub even : ℕ → ℕ
even address = address - address % 2

-- ECALL is the exit call if register 17, a7, is 93
abbrev pub call_fault : ℕ → Option Cause
call_fault number = if number == 93 then None else Some BadCall

-- the fault of an instruction with registers x at address pc, if any
abbrev pub fault : Instr → Memory → Registers → ℕ → Option Cause
fault (Lui rd imm) m x pc = None
fault (Auipc rd imm) m x pc = None
fault (Jal rd offset) m x pc = jump_fault (wrap (pc + offset))
fault (Jalr rd rs1 imm) m x pc = jump_fault (even (wrap (x rs1 + imm)))
fault (Branch op rs1 rs2 offset) m x pc =
    if is_taken op (x rs1) (x rs2) then jump_fault (wrap (pc + offset)) else None
fault (Load op rd rs1 imm) m x pc = load_fault m (load_size op) (wrap (x rs1 + imm))
fault (Store op rs1 rs2 imm) m x pc = store_fault m (store_size op) (wrap (x rs1 + imm))
fault (Immediate op rd rs1 imm) m x pc = None
fault (Shift op rd rs1 amount) m x pc = None
fault (Register op rd rs1 rs2) m x pc = None
fault (Fence mode pred succ rs1 rd) m x pc = None
fault Ecall m x pc = call_fault (x 17)
fault Ebreak m x pc = Some Break
fault (LoadReserved aq rl rd rs1) m x pc = load_fault m 4 (x rs1)
fault (StoreConditional aq rl rd rs1 rs2) m x pc = store_fault m 4 (x rs1)
fault (Amo op aq rl rd rs1 rs2) m x pc = store_fault m 4 (x rs1)

-- the cause of a hart at an address without an instruction
abbrev pub fetch_cause_of : FetchFault → Cause
fetch_cause_of fetch.Access = FetchAccess
fetch_cause_of fetch.Illegal = Illegal

-- the cause of a load that fails
abbrev pub load_cause_of : AccessFault → Cause
load_cause_of access.Misaligned = LoadMisaligned
load_cause_of access.Access = LoadAccess

-- the cause of a store that fails
abbrev pub store_cause_of : AccessFault → Cause
store_cause_of access.Misaligned = StoreMisaligned
store_cause_of access.Access = StoreAccess
