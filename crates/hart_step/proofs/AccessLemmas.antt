-- No access crosses a word, since a misaligned one is a fault.
use Rattle.std.proofs.Common.{◌≡◌, ℕ, ◌+◌, ◌%◌, ◌≤◌, Bool, true, false, cond, eqb, Option, Some, None, refl, arith}
use Rattle.std.proofs.lemmas.Bool.Decides.{nat_tests}
use Rattle.mem_store.specs.Memory.{Memory}
use Rattle.isa_table.specs.declared.instr.Instr.{Instr}
use Rattle.isa_table.specs.declared.instr.Instr.TheVariants.{Load, Store, LoadReserved, StoreConditional, Amo}
use Rattle.isa_table.specs.declared.mnemonic.LoadOp.{LoadOp}
use Rattle.isa_table.specs.declared.mnemonic.LoadOp.TheVariants.{Lb, Lh, Lw, Lbu, Lhu}
use Rattle.isa_table.specs.declared.mnemonic.StoreOp.{StoreOp}
use Rattle.isa_table.specs.declared.mnemonic.StoreOp.TheVariants.{Sb, Sh, Sw}
use Rattle.hart_step.specs.Hart.{Registers}
use Rattle.hart_step.specs.Values.{wrap, load_size, store_size}
use Rattle.hart_step.specs.Fault.{fault}
use Rattle.hart_step.specs.Locality.{access_by, IsInOneWord}
use Rattle.hart_step.specs.declared.hart.Cause.{Cause}

-- what has no fault is aligned
aligned : (address n : ℕ) (every : Bool) (no_right misaligned : Cause)
    → cond (eqb (address % n) 0) (cond every None (Some no_right)) (Some misaligned) ≡ None → address % n ≡ 0
aligned address n every no_right misaligned e = go (eqb (address % n) 0) refl e
  where
    go : (t : Bool) → eqb (address % n) 0 ≡ t → cond t (cond every None (Some no_right)) (Some misaligned) ≡ None
        → address % n ≡ 0
    go true p q = grind (arith, nat_tests)
    go false p q = absurd (let r : ◌≡◌ {A = Option Cause} (Some misaligned) None = q in cc)

load_fits : (op : LoadOp) (address : ℕ) → address % load_size op ≡ 0 → address % 4 + load_size op ≤ 4
load_fits Lb address e = omega arith
load_fits Lh address e = omega arith
load_fits Lw address e = omega arith
load_fits Lbu address e = omega arith
load_fits Lhu address e = omega arith

store_fits : (op : StoreOp) (address : ℕ) → address % store_size op ≡ 0 → address % 4 + store_size op ≤ 4
store_fits Sb address e = omega arith
store_fits Sh address e = omega arith
store_fits Sw address e = omega arith

pub in_one_word : (i : Instr) (m : Memory) (x : Registers) (pc : ℕ) → fault i m x pc ≡ None → IsInOneWord (access_by i x)
in_one_word (Load op rd rs1 imm) m x pc e =
    load_fits op (wrap (x rs1 + imm)) (aligned (wrap (x rs1 + imm)) (load_size op) _ _ _ e)
in_one_word (Store op rs1 rs2 imm) m x pc e =
    store_fits op (wrap (x rs1 + imm)) (aligned (wrap (x rs1 + imm)) (store_size op) _ _ _ e)
in_one_word (LoadReserved aq rl rd rs1) m x pc e = load_fits Lw (x rs1) (aligned (x rs1) 4 _ _ _ e)
in_one_word (StoreConditional aq rl rd rs1 rs2) m x pc e = store_fits Sw (x rs1) (aligned (x rs1) 4 _ _ _ e)
in_one_word (Amo op aq rl rd rs1 rs2) m x pc e = store_fits Sw (x rs1) (aligned (x rs1) 4 _ _ _ e)
in_one_word i m x pc e = tt
