-- Registers that are not told as written.
use Rattle.std.proofs.Common.{◌≡◌, ◌≢◌, ℕ, Bool, true, false, not, ◌&&◌, cond, eqb, List, Option, Some, None, refl, ap, sym, subst, ◌∙◌, ◌<◌, length, arith}
use Rattle.std.specs.List.{slice_get}
use Rattle.std.specs.Option.{option_map, option_and_then}
use Rattle.std.proofs.lemmas.Bool.Decides.{nat_tests}
use Rattle.std.proofs.lemmas.List.{get_or-set_same}
use Rattle.std.proofs.lemmas.Option.{get_or_from_slice_get, slice_get_within}
use Rattle.mem_store.specs.Memory.{Memory}
use Rattle.mem_store.specs.Access.{fetched}
use Rattle.hart_reservations.specs.Marks.{Marks, names}
use Rattle.isa_table.specs.Decoded.{decoded}
use Rattle.isa_table.specs.declared.instr.Instr.{Instr}
use Rattle.isa_table.specs.declared.instr.Instr.TheVariants.{Lui, Auipc, Jal, Jalr, Branch, Load, Store, Immediate, Shift, Register, Fence, Ecall, Ebreak, LoadReserved, StoreConditional, Amo}
use Rattle.hart_step.specs.Hart.{HartValue, Registers, put}
use Rattle.hart_step.specs.Fault.{fault}
use Rattle.hart_step.specs.Effect.{Site, site, effect, conditional}
use Rattle.hart_step.specs.Step.{unless, executed, at_word, by_state, stepped}
use Rattle.hart_step.specs.declared.hart.Cause.{Cause}
use Rattle.hart_step.specs.declared.hart.HartState.{HartState}
use Rattle.hart_step.specs.declared.hart.HartState.TheVariants.{Running, Exited, Faulted}
use Rattle.machine.specs.World.{World, step_of, step}
use Rattle.machine.specs.declared.choice.Choice.{Choice}
use Rattle.trace_steps.specs.Destination.{destination, unless_zero}
use Rattle.trace_steps.specs.Told.{nobody, hart_at, word_met, written_in, written_of, told_choice}
use Rattle.trace_steps.specs.Covers.{IsNotWritten}

-- a register that isn't the destination of an instruction, if it has one
abbrev IsNo : ℕ → Option ℕ → Type 0
IsNo r None = Unit {0}
IsNo r (Some rd) = rd ≢ r

put_elsewhere : (x : Registers) (rd v r : ℕ) → IsNo r (unless_zero rd) → put x rd v r ≡ x r
put_elsewhere x rd v r other = go (eqb rd 0) (eqb r rd) refl refl other
  where
    go : (zero_ same : Bool) → eqb rd 0 ≡ zero_ → eqb r rd ≡ same → IsNo r (cond zero_ None (Some rd)) → cond (same && not zero_) v (x r) ≡ x r
    go true true e f o = refl
    go true false e f o = refl
    go false false e f o = refl
    go false true e f o = absurd (let is : rd ≡ r = grind (arith, nat_tests) in o is)

conditional_elsewhere : (succeeds : Bool) (s : Site) (h : ℕ) (x : Registers) (pc rd address value r : ℕ) → IsNo r (unless_zero rd)
    → (conditional succeeds s h x pc rd address value).hart.registers r ≡ x r
conditional_elsewhere true s h x pc rd address value r other = put_elsewhere x rd 0 r other
conditional_elsewhere false s h x pc rd address value r other = put_elsewhere x rd 1 r other

effect_elsewhere : (i : Instr) (s : Site) (h : ℕ) (refuse : Bool) (pc r : ℕ) → IsNo r (destination i)
    → (effect i s h refuse s.hart.registers pc).hart.registers r ≡ s.hart.registers r
effect_elsewhere (Lui rd imm) s h refuse pc r other = put_elsewhere s.hart.registers rd _ r other
effect_elsewhere (Auipc rd imm) s h refuse pc r other = put_elsewhere s.hart.registers rd _ r other
effect_elsewhere (Jal rd offset) s h refuse pc r other = put_elsewhere s.hart.registers rd _ r other
effect_elsewhere (Jalr rd rs1 imm) s h refuse pc r other = put_elsewhere s.hart.registers rd _ r other
effect_elsewhere (Branch op rs1 rs2 offset) s h refuse pc r other = refl
effect_elsewhere (Load op rd rs1 imm) s h refuse pc r other = put_elsewhere s.hart.registers rd _ r other
effect_elsewhere (Store op rs1 rs2 imm) s h refuse pc r other = refl
effect_elsewhere (Immediate op rd rs1 imm) s h refuse pc r other = put_elsewhere s.hart.registers rd _ r other
effect_elsewhere (Shift op rd rs1 amount) s h refuse pc r other = put_elsewhere s.hart.registers rd _ r other
effect_elsewhere (Register op rd rs1 rs2) s h refuse pc r other = put_elsewhere s.hart.registers rd _ r other
effect_elsewhere (Fence mode pred succ rs1 rd) s h refuse pc r other = refl
effect_elsewhere Ecall s h refuse pc r other = refl
effect_elsewhere Ebreak s h refuse pc r other = refl
effect_elsewhere (LoadReserved aq rl rd rs1) s h refuse pc r other = put_elsewhere s.hart.registers rd _ r other
effect_elsewhere (StoreConditional aq rl rd rs1 rs2) s h refuse pc r other =
    conditional_elsewhere (names (s.reserved h) (s.hart.registers rs1) && not refuse) s h s.hart.registers pc rd (s.hart.registers rs1) (s.hart.registers rs2) r other
effect_elsewhere (Amo op aq rl rd rs1 rs2) s h refuse pc r other = put_elsewhere s.hart.registers rd _ r other

-- ---- an instruction that doesn't fault leaves its hart running or exited
abbrev HasNotFaulted : HartState → Type 0
HasNotFaulted Running = Unit {0}
HasNotFaulted (Exited status) = Unit {0}
HasNotFaulted (Faulted cause) = ⊥

conditional_state : (succeeds : Bool) (s : Site) (h : ℕ) (x : Registers) (pc rd address value : ℕ)
    → (conditional succeeds s h x pc rd address value).hart.state ≡ s.hart.state
conditional_state true s h x pc rd address value = refl
conditional_state false s h x pc rd address value = refl

effect_state : (i : Instr) (s : Site) (h : ℕ) (refuse : Bool) (x : Registers) (pc : ℕ) → HasNotFaulted s.hart.state
    → HasNotFaulted (effect i s h refuse x pc).hart.state
effect_state Ecall s h refuse x pc runs = tt
effect_state (StoreConditional aq rl rd rs1 rs2) s h refuse x pc runs =
    subst HasNotFaulted (sym (conditional_state (names (s.reserved h) (x rs1) && not refuse) s h x pc rd (x rs1) (x rs2))) runs
effect_state i s h refuse x pc runs = runs

-- a register that isn't told as written is not the destination, where the hart has not faulted
not_destination : (state : HartState) (i : Instr) (new : HartValue) (r : ℕ) → HasNotFaulted state
    → IsNotWritten r (option_map (written_of new) (written_in state (Some i))) → IsNo r (destination i)
not_destination Running i new r runs other = go (destination i) other
  where
    go : (o : Option ℕ) → IsNotWritten r (option_map (written_of new) o) → IsNo r o
    go None other = tt
    go (Some rd) other = other
not_destination (Exited status) i new r runs other = go (destination i) other
  where
    go : (o : Option ℕ) → IsNotWritten r (option_map (written_of new) o) → IsNo r o
    go None other = tt
    go (Some rd) other = other
not_destination (Faulted cause) i new r runs other = absurd runs

-- ---- whole steps
abbrev StaysAt : ℕ → Option Instr → Site → Site → Type 0
StaysAt r instr s t =
    IsNotWritten r (option_map (written_of t.hart) (written_in t.hart.state instr)) → t.hart.registers r ≡ s.hart.registers r

by-instr : (o : Option Instr) (s : Site) (h : ℕ) (refuse : Bool) (pc r : ℕ) → HasNotFaulted s.hart.state
    → StaysAt r o s (executed o s h refuse s.hart.registers pc)
by-instr None s h refuse pc r runs other = refl
by-instr (Some i) s h refuse pc r runs other = go (fault i s.memory s.hart.registers pc) other
  where
    go : (c : Option Cause) → StaysAt r (Some i) s (unless c s (effect i s h refuse s.hart.registers pc))
    go None unwritten = effect_elsewhere i s h refuse pc r
        (not_destination (effect i s h refuse s.hart.registers pc).hart.state i (effect i s h refuse s.hart.registers pc).hart r
        (effect_state i s h refuse s.hart.registers pc runs) unwritten)
    go (Some cause) unwritten = refl

by-word : (o : Option ℕ) (s : Site) (h : ℕ) (refuse : Bool) (pc r : ℕ) → HasNotFaulted s.hart.state
    → StaysAt r (option_and_then decoded o) s (at_word o s h refuse s.hart.registers pc)
by-word None s h refuse pc r runs other = refl
by-word (Some word) s h refuse pc r runs other = by-instr (decoded word) s h refuse pc r runs other

by-stated : (state : HartState) (s : Site) (h : ℕ) (refuse : Bool) (r : ℕ) → s.hart.state ≡ state
    → StaysAt r (option_and_then decoded (word_met state s.memory s.hart.pc)) s (by_state state s h refuse)
by-stated Running s h refuse r is other =
    by-word (fetched s.memory s.hart.pc) s h refuse s.hart.pc r (subst HasNotFaulted (sym is) tt) other
by-stated (Exited status) s h refuse r is other = refl
by-stated (Faulted cause) s h refuse r is other = refl

stepped_stays : (s : Site) (h : ℕ) (refuse : Bool) (r : ℕ)
    → StaysAt r (option_and_then decoded (word_met s.hart.state s.memory s.hart.pc)) s (stepped h refuse s)
unfolding stepped
stepped_stays s h refuse r = by-stated s.hart.state s h refuse r refl

-- ---- in a world
told-written : (w : World) (c : Choice) → (told_choice w c).written
    ≡ option_map (written_of (hart_at (step w c) c.hart)) (written_in (hart_at (step w c) c.hart).state
    (option_and_then decoded (word_met (hart_at w c.hart).state w.memory (hart_at w c.hart).pc)))
unfolding told_choice
told-written w c = refl

-- the hart after the step
after_there : (w : World) (c : Choice) (h : HartValue) → slice_get w.harts c.hart ≡ Some h
    → hart_at (step w c) c.hart ≡ (stepped c.hart c.refuse (site h w.memory w.reserved)).hart
unfolding step
after_there w c h there =
    ap (λ (o : Option HartValue). hart_at (step_of w c o) c.hart) there
    ∙ get_or-set_same w.harts c.hart (stepped c.hart c.refuse (site h w.memory w.reserved)).hart nobody (slice_get_within w.harts c.hart h there)

after_nobody : (w : World) (c : Choice) → slice_get w.harts c.hart ≡ None → hart_at (step w c) c.hart ≡ hart_at w c.hart
unfolding step
after_nobody w c none = ap (λ (o : Option HartValue). hart_at (step_of w c o) c.hart) none

pub unwritten_stays : (w : World) (c : Choice) (r : ℕ) → IsNotWritten r (told_choice w c).written
    → (hart_at (step w c) c.hart).registers r ≡ (hart_at w c.hart).registers r
unwritten_stays w c r other = go (slice_get w.harts c.hart) refl
  where
    go : (o : Option HartValue) → slice_get w.harts c.hart ≡ o → (hart_at (step w c) c.hart).registers r ≡ (hart_at w c.hart).registers r
    go None none = ap (λ (x : HartValue). x.registers r) (after_nobody w c none)
    go (Some h) there =
        let here : hart_at w c.hart ≡ h = get_or_from_slice_get w.harts c.hart h nobody there in
        let after = after_there w c h there in
        let told_here = subst (IsNotWritten r) (told-written w c
        ∙ ap (λ (x : HartValue). option_map (written_of (hart_at (step w c) c.hart)) (written_in (hart_at (step w c) c.hart).state
        (option_and_then decoded (word_met x.state w.memory x.pc)))) here
        ∙ ap (λ (x : HartValue). option_map (written_of x) (written_in x.state (option_and_then decoded (word_met h.state w.memory h.pc)))) after) other in
        ap (λ (x : HartValue). x.registers r) after
        ∙ stepped_stays (site h w.memory w.reserved) c.hart c.refuse r told_here
        ∙ ap (λ (x : HartValue). x.registers r) (sym here)
