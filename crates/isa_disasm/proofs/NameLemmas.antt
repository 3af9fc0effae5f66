-- how long the pieces of a line are
use Rattle.std.proofs.Common.{ℕ, zero, suc, ◌≤◌, ◌<◌, Bool, true, false, List, [], ◌∷◌, ◌++◌, length, length-append, get_or, arith, max, min, cond}
use Rattle.isa_names.specs.Names.{abi, abi_names, letter, set_name}
use Rattle.isa_table.specs.Names.{name_of}
use Rattle.isa_table.specs.declared.mnemonic.Mnemonic.{Mnemonic}
use Rattle.isa_table.specs.declared.mnemonic.Mnemonic.TheVariants.{Lui, Auipc, Jal, Jalr, Branch, Load, Store, Immediate, Shift, Register, Fence, Ecall, Ebreak, LoadReserved, StoreConditional, Amo}
use Rattle.isa_table.specs.declared.mnemonic.BranchOp.TheVariants.{Beq}
use Rattle.isa_table.specs.declared.mnemonic.LoadOp.TheVariants.{Lb}
use Rattle.isa_table.specs.declared.mnemonic.StoreOp.TheVariants.{Sb}
use Rattle.isa_table.specs.declared.mnemonic.ImmediateOp.TheVariants.{Addi}
use Rattle.isa_table.specs.declared.mnemonic.ShiftOp.TheVariants.{Slli}
use Rattle.isa_table.specs.declared.mnemonic.RegisterOp.TheVariants.{Add}
use Rattle.isa_table.specs.declared.mnemonic.AmoOp.TheVariants.{Amoswap}

-- the longest of some texts
longest : List (List ℕ) → ℕ
longest [] = 0
longest (text ∷ texts) = max (length text) (longest texts)

within_longest : (texts : List (List ℕ)) (i : ℕ) → length (get_or texts i []) ≤ longest texts
unfolding longest
within_longest [] i = omega arith
within_longest (text ∷ texts) zero = omega arith
within_longest (text ∷ texts) (suc i) = let rest = within_longest texts i in omega arith

pub abi_short : (register : ℕ) → length (abi register) ≤ 4
unfolding abi longest
abi_short register = within_longest abi_names register

-- the shortest of some texts of four bytes at most
shortest : List (List ℕ) → ℕ
shortest [] = 4
shortest (text ∷ texts) = min (length text) (shortest texts)

above_shortest : (texts : List (List ℕ)) (i : ℕ) → i < length texts → shortest texts ≤ length (get_or texts i [])
unfolding shortest
above_shortest [] i low = absurd (omega arith)
above_shortest (text ∷ texts) zero low = omega arith
above_shortest (text ∷ texts) (suc i) low = let rest = above_shortest texts i (omega arith) in omega arith

pub abi_some : (register : ℕ) → register < 32 → 2 ≤ length (abi register)
unfolding abi shortest
abi_some register low = above_shortest abi_names register low

one_at_most : (has : Bool) (byte : ℕ) → length (cond has (byte ∷ []) []) ≤ 1
one_at_most true byte = omega arith
one_at_most false byte = omega arith

letter_short : (byte set worth : ℕ) → length (letter byte set worth) ≤ 1
letter_short byte set worth = one_at_most _ byte

pub set_short : (set : ℕ) → length (set_name set) ≤ 4
unfolding set_name
set_short set =
    let i = letter 105 set 8 in
    let o = letter 111 set 4 in
    let r = letter 114 set 2 in
    let w = letter 119 set 1 in
    omega (
      arith,
      length-append i (o ++ (r ++ w)),
      length-append o (r ++ w),
      length-append r w,
      letter_short 105 set 8,
      letter_short 111 set 4,
      letter_short 114 set 2,
      letter_short 119 set 1,
    )

pub name_short : (m : Mnemonic) → length (name_of m) ≤ 16
name_short Lui = omega arith
name_short Auipc = omega arith
name_short Jal = omega arith
name_short Jalr = omega arith
name_short (Branch Beq) = omega arith
name_short (Branch _) = omega arith
name_short (Load Lb) = omega arith
name_short (Load _) = omega arith
name_short (Store Sb) = omega arith
name_short (Store _) = omega arith
name_short (Immediate Addi) = omega arith
name_short (Immediate _) = omega arith
name_short (Shift Slli) = omega arith
name_short (Shift _) = omega arith
name_short (Register Add) = omega arith
name_short (Register _) = omega arith
name_short Fence = omega arith
name_short Ecall = omega arith
name_short Ebreak = omega arith
name_short LoadReserved = omega arith
name_short StoreConditional = omega arith
name_short (Amo Amoswap) = omega arith
name_short (Amo _) = omega arith
