-- No other hart sees a local step.
use Rattle.std.proofs.Common.{◌≡◌, ℕ, zero, suc, ◌+◌, ◌%◌, ◌^◌, Bool, true, false, not, ◌&&◌, cond, Option, Some, None, refl, ap, sym, ◌∙◌, inl, inr, arith, true≢false}
use Rattle.std.proofs.lemmas.Bool.{and_parts, and_right, cases_Bool}
use Rattle.std.proofs.lemmas.Bool.Decides.{nat_tests}
use Rattle.std.specs.Option.{is_none, is_some}
use Rattle.mem_store.specs.Memory.{Memory, all_below, around, granted, grants, number_at, to_execute, to_write}
use Rattle.mem_store.specs.Access.{fetched}
use Rattle.isa_table.specs.Decoded.{decoded}
use Rattle.isa_table.specs.declared.instr.Instr.{Instr}
use Rattle.isa_table.specs.declared.instr.Instr.TheVariants.{Lui, Auipc, Jal, Jalr, Branch, Load, Store, Immediate, Shift, Register, Fence, Ecall, Ebreak, LoadReserved, StoreConditional, Amo}
use Rattle.hart_step.specs.Hart.{HartValue, Registers}
use Rattle.hart_step.specs.Fault.{fault}
use Rattle.hart_step.specs.Local.{is_local}
use Rattle.hart_step.specs.Locality.{access_by}
use Rattle.hart_step.specs.declared.hart.Cause.{Cause}
use Rattle.hart_step.specs.declared.hart.HartState.{HartState}
use Rattle.hart_step.specs.declared.hart.HartState.TheVariants.{Running, Exited, Faulted}
use Rattle.hart_local.specs.CodeMemory.{code_in, is_code}
use Rattle.hart_local.specs.LocalStep.{is_local_next, local_at, local_in, local_of, local_word}
use Rattle.bank_laws.specs.Carried.{carried_at, carried_by, carried_in, touch_of, unless_fault}
use Rattle.bank_laws.specs.Table.{is_unwritable, needed_code}
use Rattle.bank_laws.specs.Runs.{word_found}
use Rattle.bank_laws.specs.Words.{bytes_at, with_four_if}
use Rattle.bank_laws.specs.Table.{image_with_bytes}
use Rattle.explore_sites.specs.Own.{Owners, is_alone, is_own_if, touch_ahead}

-- a local instruction accesses no word
no_access : (i : Instr) (x : Registers) → is_local i ≡ true → access_by i x ≡ None
no_access (Lui rd imm) x e = refl
no_access (Auipc rd imm) x e = refl
no_access (Jal rd offset) x e = refl
no_access (Jalr rd rs1 imm) x e = refl
no_access (Branch op rs1 rs2 offset) x e = refl
no_access (Immediate op rd rs1 imm) x e = refl
no_access (Shift op rd rs1 amount) x e = refl
no_access (Register op rd rs1 rs2) x e = refl
no_access (Fence mode pred succ rs1 rd) x e = refl
no_access (Load op rd rs1 imm) x e = absurd (true≢false (sym e))
no_access (Store op rs1 rs2 imm) x e = absurd (true≢false (sym e))
no_access Ecall x e = absurd (true≢false (sym e))
no_access Ebreak x e = absurd (true≢false (sym e))
no_access (LoadReserved aq rl rd rs1) x e = absurd (true≢false (sym e))
no_access (StoreConditional aq rl rd rs1 rs2) x e = absurd (true≢false (sym e))
no_access (Amo op aq rl rd rs1 rs2) x e = absurd (true≢false (sym e))

nothing_carried : (i : Instr) (m : Memory) (x : Registers) (pc : ℕ) → is_local i ≡ true → carried_by (Some i) m x pc ≡ None
nothing_carried i m x pc e = by_fault (fault i m x pc)
  where
    by_fault : (o : Option Cause) → unless_fault o (access_by i x) ≡ None
    by_fault None = no_access i x e
    by_fault (Some cause) = refl

-- a word that spells a local instruction
word_carries : (o : Option ℕ) (m : Memory) (x : Registers) (pc : ℕ) → is_some (local_word o) ≡ true → carried_at o m x pc ≡ None
word_carries None m x pc e = refl
word_carries (Some word) m x pc e = by_instr (decoded word) e
  where
    by_instr : (o : Option Instr) → is_some (local_of o) ≡ true → carried_by o m x pc ≡ None
    by_instr None e = refl
    by_instr (Some i) e = elim (cases_Bool (is_local i)) [
      | inl local ↦ nothing_carried i m x pc local
      | inr other ↦ absurd (true≢false (sym e ∙ ap (λ (b : Bool). is_some (cond b (Some i) None)) other))
    ]

-- ---- the word that spells it is code, which no store changes
code_bytes_shut : (o : Option ℕ) → is_code o ≡ true → grants to_write o ≡ false
code_bytes_shut o e = elim (cases_Bool (grants to_write o)) [
  | inl open_ ↦ absurd (true≢false (sym (and_parts (grants to_execute o) (not (grants to_write o)) e).1 ∙ ap not open_))
  | inr shut ↦ shut
]

-- a right to execute in code is that of code
code_only : (m : Memory) (a : ℕ) → grants to_execute ((code_in m).rights a) ≡ true → is_code (m.rights a) ≡ true
unfolding code_in
code_only m a e = elim (cases_Bool (is_code (m.rights a))) [
  | inl code ↦ code
  | inr other ↦ absurd (true≢false (sym e ∙ ap (λ (b : Bool). grants to_execute (cond b (m.rights a) None)) other))
]

shut_below : (m : Memory) (n pc : ℕ) → granted to_execute (around (code_in m)) n pc ≡ true
    → all_below n (λ k. not (grants to_write ((around m).rights (pc + k)))) ≡ true
shut_below m zero pc e = refl
shut_below m (suc n) pc e =
    let both = and_parts (granted to_execute (around (code_in m)) n pc) (grants to_execute ((around (code_in m)).rights (pc + n))) e in
    let code = code_only m ((pc + n) % 2 ^ 32) both.1 in
    rw (shut_below m n pc both.0) (ap not (code_bytes_shut (m.rights ((pc + n) % 2 ^ 32)) code))

-- ---- a word of code is the memory's
same_word : (m : Memory) (n pc : ℕ) → granted to_execute (code_in m) n pc ≡ true
    → (granted to_execute m n pc ≡ true) × (number_at (code_in m).bytes n pc ≡ number_at m.bytes n pc)
unfolding code_in
same_word m zero pc e = (refl, refl)
same_word m (suc n) pc e =
    let lower : granted to_execute (code_in m) n pc ≡ true = grind (arith, nat_tests) in
    let last : grants to_execute ((code_in m).rights (pc + n)) ≡ true = grind (arith, nat_tests) in
    let code = code_only m (pc + n) last in
    let rest = same_word m n pc lower in
    let may : grants to_execute (m.rights (pc + n)) ≡ true = grind (arith, nat_tests) in
    (rw (rest.0, may) refl, rw (rest.1, code) refl)

word_around : (m : Memory) (n pc : ℕ) → granted to_execute (around (code_in m)) n pc ≡ true
    → (granted to_execute (around m) n pc ≡ true) × (number_at (around (code_in m)).bytes n pc ≡ number_at (around m).bytes n pc)
unfolding code_in
word_around m n pc e = same_word (around m) n pc e

-- where code spells a local instruction, the memory spells it, in a word that can't be written
module _ (m : Memory) (pc : ℕ) (e : is_some (local_word (fetched (code_in m) pc)) ≡ true) where
  may_fetch : granted to_execute (around (code_in m)) 4 pc ≡ true
  may_fetch = elim (cases_Bool (granted to_execute (around (code_in m)) 4 pc)) [
    | inl may ↦ may
    | inr may_not ↦
        absurd (true≢false (sym e ∙ ap (λ (b : Bool). is_some (local_word (cond b (Some (number_at (around (code_in m)).bytes 4 pc)) None))) may_not))
  ]

  same_fetch : fetched m pc ≡ fetched (code_in m) pc
  same_fetch =
      let same = word_around m 4 pc may_fetch in
      ap (λ (b : Bool). cond b (Some (number_at (around m).bytes 4 pc)) None) same.0 ∙ ap Some (sym same.1)
      ∙ sym (ap (λ (b : Bool). cond b (Some (number_at (around (code_in m)).bytes 4 pc)) None) may_fetch)

  shut : is_unwritable m pc ≡ true
  shut = shut_below m 4 pc may_fetch

  needs_none : needed_code Running m pc ≡ None
  needs_none = ap (λ (b : Bool). cond (granted to_execute (around m) 4 pc && not b) (Some (pc % 2 ^ 32)) None) shut
      ∙ ap (λ (b : Bool). cond b (Some (pc % 2 ^ 32)) None) (and_right (granted to_execute (around m) 4 pc) false refl)

  carries_none : (x : Registers) → carried_at (fetched m pc) m x pc ≡ None
  carries_none x = word_carries (fetched m pc) m x pc (ap (λ o. is_some (local_word o)) same_fetch ∙ e)

-- ---- so no other hart sees the step
by_state : (st : HartState) (m : Memory) (v : HartValue) → is_some (local_in st (code_in m) v.pc) ≡ true
    → (needed_code st m v.pc ≡ None) × (carried_in st m v ≡ None)
unfolding local_at
by_state Running m v e = (needs_none m v.pc e, carries_none m v.pc e v.registers)
by_state (Exited status) m v e = absurd (true≢false (sym e))
by_state (Faulted cause) m v e = absurd (true≢false (sym e))

pub local_alone : (owners : Owners) (m : Memory) (h : ℕ) (v : HartValue) → is_local_next (code_in m) v ≡ true → is_alone owners m h v ≡ true
local_alone owners m h v e =
    let of = by_state v.state m v e in
    let plan : touch_ahead m v ≡ None
    = ap (λ (o : Option ℕ). touch_of (carried_in v.state (image_with_bytes m (with_four_if m.bytes o (word_found o (λ x. bytes_at m.bytes x)))) v)) of.0
    ∙ ap touch_of of.1 in
    ap (λ (o : Option ℕ). is_none o && is_own_if owners m h (touch_ahead m v)) of.0 ∙ ap (is_own_if owners m h) plan
