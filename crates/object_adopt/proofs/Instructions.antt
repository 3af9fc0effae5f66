-- The 29 instructions of an adopt-commit object, from its first one's place on (At30 is the place
-- past them), and what the step of a hart at each of them comes to.
use Rattle.std.proofs.Common.{◌≡◌, ℕ, ◌+◌, ◌-◌, ◌*◌, ◌%◌, ◌≤◌, Bool, true, false, List, length, set, Option, Some, ap, ◌∙◌, eq-eqb}
use Rattle.mem_store.specs.Access.{fetched}
use Rattle.hart_reservations.specs.Marks.{Marks}
use Rattle.isa_table.specs.Decoded.{decoded}
use Rattle.isa_table.specs.declared.instr.Instr.{Instr}
use Rattle.isa_table.specs.declared.instr.Instr.TheVariants.{Branch, Load, Store}
use Rattle.isa_table.specs.declared.mnemonic.BranchOp.{BranchOp}
use Rattle.isa_table.specs.declared.mnemonic.LoadOp.TheVariants.{Lw}
use Rattle.isa_table.specs.declared.mnemonic.StoreOp.TheVariants.{Sw}
use Rattle.hart_step.specs.Hart.{HartValue, Registers, put}
use Rattle.hart_step.specs.Values.{wrap, is_taken}
use Rattle.hart_step.specs.Effect.{Site, goes_on}
use Rattle.hart_step.specs.Step.{at_word, executed}
use Rattle.machine.specs.World.{World, placed}
use Rattle.object_library.proofs.Shape.{on, sight, shaped, shaped_bytes, shaped_memory, word, may_load, with_word, stores_word, stored_by}
use Rattle.object_library.proofs.Harts.{hart_at, turn}

pub data Point : Type 0 where
  At1 At2 At3 At4 At5 At6 At7 At8 At9 At10 At11 At12 At13 At14 At15 At16 At17 At18 At19 At20 At21 At22 At23 At24 At25 At26 At27 At28 At29 At30 : Point

abbrev pub place : Point → ℕ
place At1 = 0
place At2 = 4
place At3 = 8
place At4 = 12
place At5 = 16
place At6 = 20
place At7 = 24
place At8 = 28
place At9 = 32
place At10 = 36
place At11 = 40
place At12 = 44
place At13 = 48
place At14 = 52
place At15 = 56
place At16 = 60
place At17 = 64
place At18 = 68
place At19 = 72
place At20 = 76
place At21 = 80
place At22 = 84
place At23 = 88
place At24 = 92
place At25 = 96
place At26 = 100
place At27 = 104
place At28 = 108
place At29 = 112
place At30 = 116

abbrev pub code : Point → ℕ
code At1 = 0x00451493
code At2 = 0x008484B3
code At3 = 0x00461313
code At4 = 0x00830333
code At5 = 0x00200913
code At6 = 0x00B4A023
code At7 = 0x00100393
code At8 = 0x0074A223
code At9 = 0x00040293
code At10 = 0x0042A383
code At11 = 0x00038863
code At12 = 0x0002AE03
code At13 = 0x00BE0463
code At14 = 0x00100913
code At15 = 0x01028293
code At16 = 0xFE6294E3
code At17 = 0x0124A423
code At18 = 0x00100993
code At19 = 0x00058A13
code At20 = 0x00040293
code At21 = 0x00100E93
code At22 = 0x0082A383
code At23 = 0x00038A63
code At24 = 0x01D39663
code At25 = 0x00000993
code At26 = 0x0080006F
code At27 = 0x0002AA03
code At28 = 0x01028293
code At29 = 0xFE6292E3
code At30 = 0

abbrev pub stand : (first : ℕ) → Point → Registers → HartValue
stand first p x = on x (first + place p)

module _ (text : List ℕ) (zeros : ℕ) (harts : List HartValue) (words : ℕ → ℕ) (reserved : Marks) (h : ℕ) (refuse : Bool) where
  abbrev pub here : World
  here = shaped text zeros harts words reserved

  abbrev pub sees : Registers → (pc : ℕ) → Site
  sees x pc = sight text zeros (on x pc) words reserved

  -- the step of hart h, which stands at pc, where this word is
  reads : (x : Registers) (pc w : ℕ) → fetched (shaped_memory text zeros words) pc ≡ Some w → hart_at harts h ≡ on x pc →
      turn here h refuse (hart_at harts h) ≡ placed here h (executed (decoded w) (sees x pc) h refuse x pc)
  reads x pc w is e = ap (turn here h refuse) e ∙ ap (λ (o : Option ℕ). placed here h (at_word o (sees x pc) h refuse x pc)) is

  -- one that goes on
  pub goes : (x y : Registers) (pc w to next : ℕ) → executed (decoded w) (sees x pc) h refuse x pc ≡ goes_on (sees x pc) y (wrap to) → wrap to ≡ next →
      fetched (shaped_memory text zeros words) pc ≡ Some w → hart_at harts h ≡ on x pc →
      turn here h refuse (hart_at harts h) ≡ shaped text zeros (set harts h (on y next)) words reserved
  goes x y pc w to next does lands is e =
      reads x pc w is e ∙ ap (placed here h) does ∙ ap (λ (p : ℕ). shaped text zeros (set harts h (on y p)) words reserved) lands

  pub taken : (x : Registers) (pc : ℕ) (op : BranchOp) (rs1 rs2 imm : ℕ) → is_taken op (x rs1) (x rs2) ≡ true → wrap (pc + imm) % 4 ≡ 0 →
      executed (Some (Branch op rs1 rs2 imm)) (sees x pc) h refuse x pc ≡ goes_on (sees x pc) x (wrap (pc + imm))
  taken x pc op rs1 rs2 imm so even = rw (so, eq-eqb (wrap (pc + imm) % 4) 0 even)

  pub passed_by : (x : Registers) (pc : ℕ) (op : BranchOp) (rs1 rs2 imm : ℕ) → is_taken op (x rs1) (x rs2) ≡ false →
      executed (Some (Branch op rs1 rs2 imm)) (sees x pc) h refuse x pc ≡ goes_on (sees x pc) x (wrap (pc + 4))
  passed_by x pc op rs1 rs2 imm so = rw so

  pub gets : (x : Registers) (pc rd rs1 imm k : ℕ) → 4 * length text ≤ 4096 → 4 * k + 4 ≤ zeros → wrap (x rs1 + imm) ≡ 0x11000 + 4 * k →
      executed (Some (Load Lw rd rs1 imm)) (sees x pc) h refuse x pc ≡ goes_on (sees x pc) (put x rd (word (shaped_bytes text zeros words) (wrap (x rs1 + imm)))) (wrap (pc + 4))
  gets x pc rd rs1 imm k short within is = rw (may_load text zeros words k (wrap (x rs1 + imm)) short within is)

  -- one that stores a data word
  pub puts : (x : Registers) (pc w next rs1 rs2 imm k : ℕ) → decoded w ≡ Some (Store Sw rs1 rs2 imm) → 4 * length text ≤ 4096 → 4 * k + 4 ≤ zeros → wrap (x rs1 + imm) ≡ 0x11000 + 4 * k →
      wrap (pc + 4) ≡ next → fetched (shaped_memory text zeros words) pc ≡ Some w → hart_at harts h ≡ on x pc →
      turn here h refuse (hart_at harts h) ≡ shaped text zeros (set harts h (on x next)) (with_word words k (x rs2)) (stored_by h (wrap (x rs1 + imm)) reserved)
  puts x pc w next rs1 rs2 imm k means short within at lands is e =
      reads x pc w is e ∙ ap (λ (o : Option Instr). placed here h (executed o (sees x pc) h refuse x pc)) means
      ∙ stores_word text zeros harts words reserved h k (wrap (x rs1 + imm)) (x rs2) x x pc (wrap (pc + 4)) short within at
      ∙ ap (λ (p : ℕ). shaped text zeros (set harts h (on x p)) (with_word words k (x rs2)) (stored_by h (wrap (x rs1 + imm)) reserved)) lands
