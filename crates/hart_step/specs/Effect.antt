-- The effect of an instruction without a fault.
use Rattle.std.specs.Prelude.{ℕ, ◌+◌, ◌*◌, ◌^◌, Bool, true, false, not, ◌&&◌, if◌then◌else◌}
use Rattle.mem_store.specs.Memory.{Memory, number_at}
use Rattle.mem_store.specs.Access.{written}
use Rattle.hart_reservations.specs.Marks.{Marks, with_mark, without_mark, names, ended, word_of}
use Rattle.isa_table.specs.declared.instr.Instr.{Instr}
use Rattle.isa_table.specs.declared.instr.Instr.TheVariants.{Lui, Auipc, Jal, Jalr, Branch, Load, Store, Immediate, Shift, Register, Fence, Ecall, Ebreak, LoadReserved, StoreConditional, Amo}
use Rattle.hart_reservations.specs.Reserve.{marks}
use Rattle.hart_reservations.specs.declared.reserve.Reserve.{Reserve}
use Rattle.hart_step.specs.Hart.{HartValue, Registers, put, hart_of}
use Rattle.hart_step.specs.declared.hart.Hart.{Hart}
use Rattle.hart_step.specs.Values.{wrap, register_result, immediate_form, shift_form, is_taken, load_size, extended, store_size, amo_result}
use Rattle.hart_step.specs.Fault.{even}
use Rattle.hart_step.specs.declared.hart.HartState.TheVariants.{Exited}

-- the state that one hart's step depends on: the hart, the memory and all reservations
pub record Site : Type 0 where
  pub hart : HartValue
  pub memory : Memory
  pub reserved : Marks

-- a site of its parts
abbrev pub site : HartValue → Memory → Marks → Site
site h m r = record { hart = h; memory = m; reserved = r }

-- the site of a hart of the code, a memory and an array of reservations
abbrev pub site_of : Hart → Memory → Reserve → Site
site_of h m r = site (hart_of h) m (marks r)

-- the hart goes on at an address with these registers
abbrev pub goes_on : Site → Registers → ℕ → Site
goes_on s x pc = record s { hart = record s.hart { registers = x; pc = pc } }

-- the hart exits with a status; its registers and pc stay
abbrev pub exits : Site → ℕ → Site
exits s status = record s { hart = record s.hart { state = Exited status } }

-- the address of the next instruction in memory
abbrev pub next : ℕ → ℕ
next pc = wrap (pc + 4)

-- hart h stores the low n bytes of a value
abbrev pub stores : Site → ℕ → ℕ → ℕ → ℕ → Site
stores s h n address value =
    record s {
      memory = written n address value s.memory;
      reserved = ended s.reserved h (word_of address);
    }

-- a store-conditional by hart h: on success it stores and rd gets 0, else 1; either way the hart's
-- reservation ends (Unprivileged ISA, "Load-Reserved/Store-Conditional Instructions")
abbrev pub conditional : Bool → Site → ℕ → Registers → ℕ → ℕ → ℕ → ℕ → Site
conditional true s h x pc rd address value =
    let t = stores s h 4 address value in
    goes_on (record t { reserved = without_mark t.reserved h }) (put x rd 0) (next pc)
conditional false s h x pc rd address value =
    goes_on (record s { reserved = without_mark s.reserved h }) (put x rd 1) (next pc)

-- an AMO by hart h: the old word into rd, the operation's result into memory
abbrev pub amo : Site → ℕ → Registers → ℕ → ℕ → ℕ → (ℕ → ℕ) → Site
amo s h x pc rd address operation =
    let old = number_at s.memory.bytes 4 address in
    goes_on (stores s h 4 address (operation old)) (put x rd old) (next pc)

-- the effect of an instruction of hart h, which has registers x and is at pc; if `refuse` holds, a
-- store-conditional fails
abbrev pub effect : Instr → Site → ℕ → Bool → Registers → ℕ → Site
effect (Lui rd imm) s h refuse x pc = goes_on s (put x rd (imm * 2 ^ 12)) (next pc)
effect (Auipc rd imm) s h refuse x pc = goes_on s (put x rd (wrap (pc + imm * 2 ^ 12))) (next pc)
effect (Jal rd offset) s h refuse x pc = goes_on s (put x rd (next pc)) (wrap (pc + offset))
effect (Jalr rd rs1 imm) s h refuse x pc =
    goes_on s (put x rd (next pc)) (even (wrap (x rs1 + imm)))
effect (Branch op rs1 rs2 offset) s h refuse x pc =
    goes_on s x (if is_taken op (x rs1) (x rs2) then wrap (pc + offset) else next pc)
effect (Load op rd rs1 imm) s h refuse x pc =
    let number = number_at s.memory.bytes (load_size op) (wrap (x rs1 + imm)) in
    goes_on s (put x rd (extended op number)) (next pc)
effect (Store op rs1 rs2 imm) s h refuse x pc =
    goes_on (stores s h (store_size op) (wrap (x rs1 + imm)) (x rs2)) x (next pc)
effect (Immediate op rd rs1 imm) s h refuse x pc =
    goes_on s (put x rd (register_result (immediate_form op) (x rs1) imm)) (next pc)
effect (Shift op rd rs1 amount) s h refuse x pc =
    goes_on s (put x rd (register_result (shift_form op) (x rs1) amount)) (next pc)
effect (Register op rd rs1 rs2) s h refuse x pc =
    goes_on s (put x rd (register_result op (x rs1) (x rs2))) (next pc)
effect (Fence mode pred succ rs1 rd) s h refuse x pc = goes_on s x (next pc)
effect Ecall s h refuse x pc = exits s (x 10)
effect Ebreak s h refuse x pc = s
effect (LoadReserved aq rl rd rs1) s h refuse x pc =
    let t = record s { reserved = with_mark s.reserved h (x rs1) } in
    goes_on t (put x rd (number_at s.memory.bytes 4 (x rs1))) (next pc)
effect (StoreConditional aq rl rd rs1 rs2) s h refuse x pc =
    conditional (names (s.reserved h) (x rs1) && not refuse) s h x pc rd (x rs1) (x rs2)
effect (Amo op aq rl rd rs1 rs2) s h refuse x pc =
    amo s h x pc rd (x rs1) (λ old. amo_result op old (x rs2))
