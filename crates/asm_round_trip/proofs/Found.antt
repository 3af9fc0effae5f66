-- Printed names are found in the reader's tables.
use Rattle.std.proofs.Common.{◌≡◌, ℕ, zero, suc, ◌<◌, ◌^◌, Bool, true, false, List, ◌++◌, Some, Ok, refl, arith}
use Rattle.std.specs.Prelude.{codes}
use Rattle.isa_table.specs.Names.{name_of}
use Rattle.isa_table.specs.declared.fields.Order.{Order}
use Rattle.isa_table.specs.declared.mnemonic.Mnemonic.{Mnemonic}
use Rattle.isa_table.specs.declared.mnemonic.Mnemonic.TheVariants as m
use Rattle.isa_table.specs.declared.mnemonic.BranchOp.TheVariants.{Beq}
use Rattle.isa_table.specs.declared.mnemonic.LoadOp.TheVariants.{Lb}
use Rattle.isa_table.specs.declared.mnemonic.StoreOp.TheVariants.{Sb}
use Rattle.isa_table.specs.declared.mnemonic.ImmediateOp.TheVariants.{Addi}
use Rattle.isa_table.specs.declared.mnemonic.ShiftOp.TheVariants.{Slli}
use Rattle.isa_table.specs.declared.mnemonic.RegisterOp.TheVariants.{Add}
use Rattle.isa_table.specs.declared.mnemonic.AmoOp.{AmoOp}
use Rattle.isa_table.specs.declared.mnemonic.AmoOp.TheVariants.{Amoswap}
use Rattle.isa_names.specs.Names.{abi, set_name}
use Rattle.isa_disasm.specs.Lines.{suffix}
use Rattle.asm_statement.specs.Names.{first_named, register_number, register_of, fence_bits, fence_set_of}
use Rattle.asm_statement.specs.Shapes.{register_operand}
use Rattle.asm_statement.specs.Heads.{head_of}
use Rattle.asm_statement.specs.declared.heads.Head.{Head}
use Rattle.asm_statement.specs.declared.heads.Head.TheVariants as heads
use Rattle.asm_statement.specs.declared.heads.Operation.{Operation}
use Rattle.asm_statement.specs.declared.heads.Operation.TheVariants as ops
use Rattle.asm_round_trip.proofs.Atoms.{IsName}
use Rattle.asm_round_trip.proofs.Names.{Each, each_at, named, register_is_name, set_is_name, mnemonic_is_name}

-- the name of a register is a name, and found as this register's
pub record NamesRegister (r : ℕ) : Type 0 where
  pub word : IsName (abi r)
  pub is : register_operand (abi r) ≡ Ok r

registers_found : Each (λ r. register_operand (abi r) ≡ Ok r) 32
unfolding abi register_operand register_of register_number first_named
registers_found = (refl, (refl, (refl, (refl, (refl, (refl, (refl, (refl, (refl, (refl, (refl, (refl, (refl, (refl, (refl, (refl, (refl, (refl, (refl, (refl, (refl, (refl, (refl, (refl, (refl, (refl, (refl, (refl, (refl, (refl, (refl, (refl, tt))))))))))))))))))))))))))))))))

pub register_found : (r : ℕ) → r < 2 ^ 5 → NamesRegister r
register_found r lt = record { word = register_is_name r lt; is = each_at (λ r. register_operand (abi r) ≡ Ok r) 32 r registers_found lt }

-- the name of a set that is not empty is a name, and found as this set's
pub record NamesSet (s : ℕ) : Type 0 where
  pub word : IsName (set_name s)
  pub is : fence_set_of (set_name s) ≡ Some s

sets_found : Each (λ s. fence_set_of (set_name (suc s)) ≡ Some (suc s)) 15
unfolding set_name fence_set_of fence_bits first_named
sets_found = (refl, (refl, (refl, (refl, (refl, (refl, (refl, (refl, (refl, (refl, (refl, (refl, (refl, (refl, (refl, tt)))))))))))))))

pub set_found : (s : ℕ) → 0 < s → s < 2 ^ 4 → NamesSet s
set_found zero some lt = absurd (omega (arith, some))
set_found (suc s) some lt = record { word = set_is_name (suc s) some lt; is = each_at (λ s. fence_set_of (set_name (suc s)) ≡ Some (suc s)) 15 s sets_found (omega arith) }

-- a name at the front of a statement is a name with this meaning
pub record NamesHead (w : List ℕ) (h : Head) : Type 0 where
  pub word : IsName w
  pub is : head_of w ≡ Some h

-- acquire and release
abbrev order : Bool → Bool → Order
order aq rl = record { aq = aq; rl = rl }

-- the operation of a mnemonic without a suffix
abbrev operation_of : Mnemonic → Operation
operation_of m.Lui = ops.Lui
operation_of m.Auipc = ops.Auipc
operation_of m.Jal = ops.Jal
operation_of m.Jalr = ops.Jalr
operation_of (m.Branch op) = ops.Branch op
operation_of (m.Load op) = ops.Load op
operation_of (m.Store op) = ops.Store op
operation_of (m.Immediate op) = ops.Immediate op
operation_of (m.Shift op) = ops.Shift op
operation_of (m.Register op) = ops.Register op
operation_of m.Fence = ops.Fence
operation_of m.Ecall = ops.Ecall
operation_of m.Ebreak = ops.Ebreak
operation_of m.LoadReserved = ops.LoadReserved (order false false)
operation_of m.StoreConditional = ops.StoreConditional (order false false)
operation_of (m.Amo op) = ops.Amo op (order false false)

mnemonic_found : (mnemonic : Mnemonic) → head_of (name_of mnemonic) ≡ Some (heads.Operation (operation_of mnemonic))
unfolding head_of first_named
mnemonic_found (m.Branch Beq) = refl
mnemonic_found (m.Branch _) = refl
mnemonic_found (m.Load Lb) = refl
mnemonic_found (m.Load _) = refl
mnemonic_found (m.Store Sb) = refl
mnemonic_found (m.Store _) = refl
mnemonic_found (m.Immediate Addi) = refl
mnemonic_found (m.Immediate _) = refl
mnemonic_found (m.Shift Slli) = refl
mnemonic_found (m.Shift _) = refl
mnemonic_found (m.Register Add) = refl
mnemonic_found (m.Register _) = refl
mnemonic_found (m.Amo Amoswap) = refl
mnemonic_found (m.Amo _) = refl
mnemonic_found m.Lui = refl
mnemonic_found _ = refl

pub mnemonic_head : (mnemonic : Mnemonic) → NamesHead (name_of mnemonic) (heads.Operation (operation_of mnemonic))
mnemonic_head mnemonic = record { word = mnemonic_is_name mnemonic; is = mnemonic_found mnemonic }

pub reserved_head : (aq rl : Bool) → NamesHead (name_of m.LoadReserved ++ suffix aq rl) (heads.Operation (ops.LoadReserved (order aq rl)))
unfolding head_of first_named
reserved_head true true = record { word = named _ refl; is = refl }
reserved_head true false = record { word = named _ refl; is = refl }
reserved_head false true = record { word = named _ refl; is = refl }
reserved_head false false = record { word = named _ refl; is = refl }

pub conditional_head : (aq rl : Bool) → NamesHead (name_of m.StoreConditional ++ suffix aq rl) (heads.Operation (ops.StoreConditional (order aq rl)))
unfolding head_of first_named
conditional_head true true = record { word = named _ refl; is = refl }
conditional_head true false = record { word = named _ refl; is = refl }
conditional_head false true = record { word = named _ refl; is = refl }
conditional_head false false = record { word = named _ refl; is = refl }

pub amo_head : (op : AmoOp) (aq rl : Bool) → NamesHead (name_of (m.Amo op) ++ suffix aq rl) (heads.Operation (ops.Amo op (order aq rl)))
unfolding head_of first_named
amo_head Amoswap true true = record { word = named _ refl; is = refl }
amo_head Amoswap true false = record { word = named _ refl; is = refl }
amo_head Amoswap false true = record { word = named _ refl; is = refl }
amo_head Amoswap false false = record { word = named _ refl; is = refl }
amo_head _ true true = record { word = named _ refl; is = refl }
amo_head _ true false = record { word = named _ refl; is = refl }
amo_head _ false true = record { word = named _ refl; is = refl }
amo_head _ false false = record { word = named _ refl; is = refl }

pub tso_head : NamesHead (codes "fence.tso") (heads.Operation ops.FenceTso)
unfolding head_of first_named
tso_head = record { word = named _ refl; is = refl }

pub word_head : NamesHead (codes ".word") heads.Words
unfolding head_of first_named
word_head = record { word = named _ refl; is = refl }

pub byte_head : NamesHead (codes ".byte") heads.Bytes
unfolding head_of first_named
byte_head = record { word = named _ refl; is = refl }
