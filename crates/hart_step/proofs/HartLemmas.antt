-- What no step changes of its hart: register 0 reads 0, and the next instruction is at a multiple
-- of 4.
use Rattle.std.proofs.Common.{◌≡◌, ◌≢◌, ℕ, ◌+◌, ◌%◌, Bool, true, false, not, ◌&&◌, cond, eqb, List, set, Option, Some, None, refl, sym, arith, inl, inr, ◌∙◌}
use Rattle.std.specs.List.{slice_index}
use Rattle.std.proofs.lemmas.List.{get_or-set_other}
use Rattle.std.proofs.lemmas.Bool.{cases_Bool}
use Rattle.std.proofs.lemmas.Bool.Decides.{nat_tests}
use Rattle.mem_store.specs.Access.{fetched}
use Rattle.hart_reservations.specs.Marks.{names}
use Rattle.isa_table.specs.Decoded.{decoded}
use Rattle.isa_table.specs.declared.instr.Instr.{Instr}
use Rattle.isa_table.specs.declared.instr.Instr.TheVariants.{Lui, Auipc, Jal, Jalr, Branch, Load, Store, Immediate, Shift, Register, Fence, Ecall, Ebreak, LoadReserved, StoreConditional, Amo}
use Rattle.hart_step.specs.Hart.{Registers, HartValue, put}
use Rattle.hart_step.specs.Values.{wrap, is_taken}
use Rattle.hart_step.specs.Fault.{fault, jump_fault, even}
use Rattle.hart_step.specs.Effect.{Site, effect, conditional, next}
use Rattle.hart_step.specs.Step.{unless, executed, at_word, by_state, stepped}
use Rattle.hart_step.specs.Laws.{IsAligned, HasZero}
use Rattle.hart_step.specs.declared.hart.Cause.{Cause}
use Rattle.hart_step.specs.declared.hart.Cause.TheVariants.{JumpMisaligned}
use Rattle.hart_step.specs.declared.hart.HartState.{HartState}
use Rattle.hart_step.specs.declared.hart.HartState.TheVariants.{Running, Exited, Faulted}

-- ---- register 0
-- another register was written
pub zero_written : (words : List ℕ) (i v : ℕ) → i ≢ 0 → slice_index words 0 ≡ 0 → slice_index (set words i v) 0 ≡ 0
zero_written words i v other z = get_or-set_other words i 0 v 0 (λ e. other (sym e)) ∙ z

put-zero : (x : Registers) (rd v : ℕ) → x 0 ≡ 0 → put x rd v 0 ≡ 0
put-zero x rd v z = elim (cases_Bool (eqb 0 rd && not (eqb rd 0))) [
  | inl both ↦ absurd (let r : ⊥ = grind (arith, nat_tests) in r)
  | inr neither ↦ rw neither z
]

zero-conditional : (succeeds : Bool) (s : Site) (h : ℕ) (x : Registers) (pc rd address value : ℕ)
    → x 0 ≡ 0 → HasZero (conditional succeeds s h x pc rd address value).hart
zero-conditional true s h x pc rd address value z = put-zero x rd 0 z
zero-conditional false s h x pc rd address value z = put-zero x rd 1 z

zero-effect : (i : Instr) (s : Site) (h : ℕ) (refuse : Bool) (x : Registers) (pc : ℕ)
    → x 0 ≡ 0 → HasZero s.hart → HasZero (effect i s h refuse x pc).hart
zero-effect (Lui rd imm) s h refuse x pc z t = put-zero x rd _ z
zero-effect (Auipc rd imm) s h refuse x pc z t = put-zero x rd _ z
zero-effect (Jal rd offset) s h refuse x pc z t = put-zero x rd _ z
zero-effect (Jalr rd rs1 imm) s h refuse x pc z t = put-zero x rd _ z
zero-effect (Branch op rs1 rs2 offset) s h refuse x pc z t = z
zero-effect (Load op rd rs1 imm) s h refuse x pc z t = put-zero x rd _ z
zero-effect (Store op rs1 rs2 imm) s h refuse x pc z t = z
zero-effect (Immediate op rd rs1 imm) s h refuse x pc z t = put-zero x rd _ z
zero-effect (Shift op rd rs1 amount) s h refuse x pc z t = put-zero x rd _ z
zero-effect (Register op rd rs1 rs2) s h refuse x pc z t = put-zero x rd _ z
zero-effect (Fence mode pred succ rs1 rd) s h refuse x pc z t = z
zero-effect Ecall s h refuse x pc z t = t
zero-effect Ebreak s h refuse x pc z t = t
zero-effect (LoadReserved aq rl rd rs1) s h refuse x pc z t = put-zero x rd _ z
zero-effect (StoreConditional aq rl rd rs1 rs2) s h refuse x pc z t =
    zero-conditional (names (s.reserved h) (x rs1) && not refuse) s h x pc rd (x rs1) (x rs2) z
zero-effect (Amo op aq rl rd rs1 rs2) s h refuse x pc z t = put-zero x rd _ z

-- ---- alignment
target_aligned : (target : ℕ) → jump_fault target ≡ None → target % 4 ≡ 0
target_aligned target e = go (eqb (target % 4) 0) refl e
  where
    go : (aligned : Bool) → eqb (target % 4) 0 ≡ aligned → cond aligned None (Some JumpMisaligned) ≡ None → target % 4 ≡ 0
    go true p q = grind (arith, nat_tests)
    go false p q = absurd (let r : ◌≡◌ {A = Option Cause} (Some JumpMisaligned) None = q in cc)

next_aligned : (pc : ℕ) → pc % 4 ≡ 0 → next pc % 4 ≡ 0
next_aligned pc a = omega arith

branch_aligned : (taken : Bool) (pc target : ℕ) → pc % 4 ≡ 0
    → cond taken (jump_fault target) None ≡ None → (cond taken target (next pc)) % 4 ≡ 0
branch_aligned true pc target a e = target_aligned target e
branch_aligned false pc target a e = next_aligned pc a

aligned-conditional : (succeeds : Bool) (s : Site) (h : ℕ) (x : Registers) (pc rd address value : ℕ)
    → pc % 4 ≡ 0 → IsAligned (conditional succeeds s h x pc rd address value).hart
aligned-conditional true s h x pc rd address value a = next_aligned pc a
aligned-conditional false s h x pc rd address value a = next_aligned pc a

aligned-effect : (i : Instr) (s : Site) (h : ℕ) (refuse : Bool) (x : Registers) (pc : ℕ)
    → pc % 4 ≡ 0 → IsAligned s.hart → fault i s.memory x pc ≡ None → IsAligned (effect i s h refuse x pc).hart
aligned-effect (Jal rd offset) s h refuse x pc a t e = target_aligned (wrap (pc + offset)) e
aligned-effect (Jalr rd rs1 imm) s h refuse x pc a t e = target_aligned (even (wrap (x rs1 + imm))) e
aligned-effect (Branch op rs1 rs2 offset) s h refuse x pc a t e =
    branch_aligned (is_taken op (x rs1) (x rs2)) pc (wrap (pc + offset)) a e
aligned-effect Ecall s h refuse x pc a t e = t
aligned-effect Ebreak s h refuse x pc a t e = t
aligned-effect (StoreConditional aq rl rd rs1 rs2) s h refuse x pc a t e =
    aligned-conditional (names (s.reserved h) (x rs1) && not refuse) s h x pc rd (x rs1) (x rs2) a
aligned-effect i s h refuse x pc a t e = next_aligned pc a

-- ---- whole steps
module _ (P : HartValue → Type 0) (stopped : (v : HartValue) (state : HartState) → P v → P (record v { state = state }))
    (after : (i : Instr) (s : Site) (h : ℕ) (refuse : Bool) → P s.hart → fault i s.memory s.hart.registers s.hart.pc ≡ None
    → P (effect i s h refuse s.hart.registers s.hart.pc).hart) where
  by-executed : (o : Option Instr) (s : Site) (h : ℕ) (refuse : Bool) → P s.hart
      → P (executed o s h refuse s.hart.registers s.hart.pc).hart
  by-executed None s h refuse p = stopped s.hart _ p
  by-executed (Some i) s h refuse p = go (fault i s.memory s.hart.registers s.hart.pc) refl
    where
      go : (c : Option Cause) → fault i s.memory s.hart.registers s.hart.pc ≡ c
          → P (unless c s (effect i s h refuse s.hart.registers s.hart.pc)).hart
      go None e = after i s h refuse p e
      go (Some cause) e = stopped s.hart (Faulted cause) p

  by-word : (o : Option ℕ) (s : Site) (h : ℕ) (refuse : Bool) → P s.hart
      → P (at_word o s h refuse s.hart.registers s.hart.pc).hart
  by-word None s h refuse p = stopped s.hart _ p
  by-word (Some word) s h refuse p = by-executed (decoded word) s h refuse p

  by-stated : (state : HartState) (s : Site) (h : ℕ) (refuse : Bool) → P s.hart → P (by_state state s h refuse).hart
  by-stated Running s h refuse p = by-word (fetched s.memory s.hart.pc) s h refuse p
  by-stated (Exited status) s h refuse p = p
  by-stated (Faulted cause) s h refuse p = p

pub stepped-zero : (h : ℕ) (refuse : Bool) (s : Site) → HasZero s.hart → HasZero (stepped h refuse s).hart
unfolding stepped
stepped-zero h refuse s z =
    by-stated HasZero (λ v state p. p) (λ i t k r p e. zero-effect i t k r t.hart.registers t.hart.pc p p) s.hart.state s h refuse z

pub stepped-aligned : (h : ℕ) (refuse : Bool) (s : Site) → IsAligned s.hart → IsAligned (stepped h refuse s).hart
unfolding stepped
stepped-aligned h refuse s a =
    by-stated IsAligned (λ v state p. p) (λ i t k r p e. aligned-effect i t k r t.hart.registers t.hart.pc p p e) s.hart.state s h refuse a
