-- Instructions that were read and valued are in range.
use Rattle.std.proofs.Common.{◌≡◌, ℕ, ◌^◌, ◌<◌, ℤ, pos, negsuc, Bool, true, false, cond, List, Some, None, Result, Ok, Err, IfSome, refl, sym, subst, arith}
use Rattle.std.specs.Prelude.{◌==◌}
use Rattle.isa_table.specs.Spells.{InRange}
use Rattle.isa_table.specs.declared.instr.Instr.{Instr}
use Rattle.asm_statement.specs.declared.fault.FaultKind.{FaultKind}
use Rattle.asm_statement.specs.declared.fault.FaultKind.TheVariants as kinds
use Rattle.asm_statement.specs.declared.statement.Instruction.{Instruction}
use Rattle.asm_statement.specs.declared.statement.Instruction.TheVariants as read
use Rattle.asm_statement.specs.declared.statement.Pseudo.{Pseudo}
use Rattle.asm_statement.specs.declared.statement.Pseudo.TheVariants as pseudo
use Rattle.asm_assemble.specs.declared.instruction.Pair.{Pair}
use Rattle.asm_assemble.specs.Instructions.{addi, li_pair, la_pair, jump_pair, instr_pair}
use Rattle.asm_assemble.specs.Numbers.{as_word, is_in_range, is_signed_word, lo, distance}
use Rattle.asm_assemble.specs.Operands.{symbol_value}
use Rattle.asm_assemble.specs.Placed.{Standing, IsInstr}
use Rattle.asm_assemble.specs.Program.{SymbolList}
use Rattle.asm_laws.proofs.Operands.{HasRegisters, PseudoHasRegister}
use Rattle.asm_laws.proofs.Ranges.{step_gives, amount_5, lo_signed, hi_small, immediate_12, upper_20, signed_12, signed_13, signed_21}

pub instr_in_range : (symbols : SymbolList) (before : List Standing) (s : Standing) (after : List Standing) (i : Instruction) (j : Instr) → HasRegisters i → IsInstr symbols before s after i j → InRange j
instr_in_range symbols before s after (read.Fixed k) j h g = subst InRange (sym g) h
instr_in_range symbols before s after (read.Lui rd imm) j h g = subst InRange (sym g.2) (h, upper_20 symbols imm g.0 g.1)
instr_in_range symbols before s after (read.Auipc rd imm) j h g = subst InRange (sym g.2) (h, upper_20 symbols imm g.0 g.1)
instr_in_range symbols before s after (read.Jal rd target) j h g = subst InRange (sym g.2) (h, signed_21 g.0 g.1.word g.1.signed, g.1.even)
instr_in_range symbols before s after (read.Jalr rd rs1 imm) j h g = subst InRange (sym g.2) (h.0, h.1, immediate_12 symbols imm g.0 g.1)
instr_in_range symbols before s after (read.Branch op rs1 rs2 target) j h g = subst InRange (sym g.2) (h.0, h.1, signed_13 g.0 g.1.word g.1.signed, g.1.even)
instr_in_range symbols before s after (read.Load op rd rs1 imm) j h g = subst InRange (sym g.2) (h.0, h.1, immediate_12 symbols imm g.0 g.1)
instr_in_range symbols before s after (read.Store op rs1 rs2 imm) j h g = subst InRange (sym g.2) (h.0, h.1, immediate_12 symbols imm g.0 g.1)
instr_in_range symbols before s after (read.Immediate op rd rs1 imm) j h g = subst InRange (sym g.2) (h.0, h.1, immediate_12 symbols imm g.0 g.1)
instr_in_range symbols before s after (read.Shift op rd rs1 amount) j h g = subst InRange (sym g.2) (h.0, h.1, amount_5 amount g.0 g.1)

-- ---- pseudo-instructions
pub record PairInRange (pair : Pair) : Type 0 where
  pub one : InRange pair.first
  pub two : IfSome pair.second InRange

word_fits : (n : ℤ) → as_word n < 2 ^ 32
unfolding as_word
word_fits (pos n) = omega arith
word_fits (negsuc n) = omega arith

second_li : (rd word : ℕ) (b : Bool) → rd < 2 ^ 5 → IfSome (cond b None (Some (addi rd rd (lo word)))) InRange
second_li rd word true h = tt
second_li rd word false h = (h, h, lo_signed word)

li_in_range : (rd word : ℕ) → rd < 2 ^ 5 → word < 2 ^ 32 → PairInRange (li_pair rd word)
unfolding li_pair
li_in_range rd word h small = by (is_signed_word 12 word) refl
  where
    by : (b : Bool) → is_signed_word 12 word ≡ b → PairInRange (li_pair rd word)
    by true e = rw e (record { one = (h, omega arith, signed_12 word small e); two = tt })
    by false e = rw e (record { one = (h, hi_small word); two = second_li rd word (lo word == 0) h })

la_in_range : (rd d : ℕ) → rd < 2 ^ 5 → PairInRange (la_pair rd d)
unfolding la_pair
la_in_range rd d h = record { one = (h, hi_small d); two = (h, h, lo_signed d) }

jump_in_range : (by rd d : ℕ) → by < 2 ^ 5 → rd < 2 ^ 5 → PairInRange (jump_pair by rd d)
unfolding jump_pair
jump_in_range by rd d h g = record { one = (h, hi_small d); two = (g, h, lo_signed d) }

abbrev pairs : Pair → Result Pair FaultKind
pairs p = Ok p

same_pair : (p q : Pair) → pairs p ≡ pairs q → p ≡ q
same_pair p q e = cc

chosen_pair : (b : Bool) (p q : Pair) (why : FaultKind) → cond b (pairs p) (Err why) ≡ Ok q → p ≡ q
chosen_pair true p q why e = same_pair p q e
chosen_pair false p q why e = absurd cc

pub pair_in_range : (symbols : SymbolList) (at : ℕ) (p : Pseudo) (pair : Pair) → PseudoHasRegister p → instr_pair symbols at p ≡ Ok pair → PairInRange pair
unfolding instr_pair
pair_in_range symbols at (pseudo.Li rd number) pair h e =
    subst PairInRange (chosen_pair (is_in_range (2 ^ 31) (2 ^ 64) number) (li_pair rd (as_word number)) pair kinds.Range e) (li_in_range rd (as_word number) h (word_fits number))
pair_in_range symbols at (pseudo.La rd name offset) pair h e =
    let g = step_gives (symbol_value symbols name offset) (λ to. pairs (la_pair rd (distance at to))) pair e in
    subst PairInRange (same_pair (la_pair rd (distance at g.0)) pair g.2) (la_in_range rd (distance at g.0) h)
pair_in_range symbols at (pseudo.Call name) pair h e =
    let g = step_gives (symbol_value symbols name (pos 0)) (λ to. pairs (jump_pair 1 1 (distance at to))) pair e in
    subst PairInRange (same_pair (jump_pair 1 1 (distance at g.0)) pair g.2) (jump_in_range 1 1 (distance at g.0) (omega arith) (omega arith))
pair_in_range symbols at (pseudo.Tail name) pair h e =
    let g = step_gives (symbol_value symbols name (pos 0)) (λ to. pairs (jump_pair 6 0 (distance at to))) pair e in
    subst PairInRange (same_pair (jump_pair 6 0 (distance at g.0)) pair g.2) (jump_in_range 6 0 (distance at g.0) (omega arith) (omega arith))
