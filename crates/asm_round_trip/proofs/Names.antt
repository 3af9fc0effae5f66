-- Printed names are names.
use Rattle.std.proofs.Common.{◌≡◌, ℕ, zero, suc, ◌<◌, ◌^◌, Bool, true, List, length, refl, arith, slice_index, ◌&&◌, nat_lt, not}
use Rattle.std.proofs.lemmas.Bool.Decides.{nat_tests}
use Rattle.isa_table.specs.Names.{name_of}
use Rattle.isa_table.specs.declared.mnemonic.Mnemonic.{Mnemonic}
use Rattle.isa_table.specs.declared.mnemonic.Mnemonic.TheVariants as m
use Rattle.isa_table.specs.declared.mnemonic.BranchOp.TheVariants.{Beq}
use Rattle.isa_table.specs.declared.mnemonic.LoadOp.TheVariants.{Lb}
use Rattle.isa_table.specs.declared.mnemonic.StoreOp.TheVariants.{Sb}
use Rattle.isa_table.specs.declared.mnemonic.ImmediateOp.TheVariants.{Addi}
use Rattle.isa_table.specs.declared.mnemonic.ShiftOp.TheVariants.{Slli}
use Rattle.isa_table.specs.declared.mnemonic.RegisterOp.TheVariants.{Add}
use Rattle.isa_table.specs.declared.mnemonic.AmoOp.TheVariants.{Amoswap}
use Rattle.asm_lex.specs.Bytes.{is_digit}
use Rattle.isa_names.specs.Names.{abi, set_name}
use Rattle.asm_round_trip.proofs.Atoms.{IsName, is_word}

-- what holds of each number below a bound
abbrev pub Each : (ℕ → Type 0) → ℕ → Type 0
Each P zero = Unit {0}
Each P (suc n) = P zero × Each (λ k. P (suc k)) n

pub each_at : (P : ℕ → Type 0) (n k : ℕ) → Each P n → k < n → P k
each_at P zero k all lt = absurd (omega (arith, lt))
each_at P (suc n) zero all lt = all.0
each_at P (suc n) (suc k) all lt = each_at (λ k. P (suc k)) n k all.1 (omega arith)

-- whether a text is a name
abbrev is_name : List ℕ → Bool
is_name w = nat_lt 0 (length w) && is_word w && not (is_digit (slice_index w 0))

pub named : (w : List ℕ) → is_name w ≡ true → IsName w
named w e = record {
  some = grind (arith, nat_tests, e);
  bytes = grind (arith, nat_tests, e);
  no_digit = grind (arith, nat_tests, e);
}

each_register : Each (λ r. is_name (abi r) ≡ true) 32
unfolding abi
each_register = (refl, (refl, (refl, (refl, (refl, (refl, (refl, (refl, (refl, (refl, (refl, (refl, (refl, (refl, (refl, (refl, (refl, (refl, (refl, (refl, (refl, (refl, (refl, (refl, (refl, (refl, (refl, (refl, (refl, (refl, (refl, (refl, tt))))))))))))))))))))))))))))))))

each_set : Each (λ s. is_name (set_name (suc s)) ≡ true) 15
unfolding set_name
each_set = (refl, (refl, (refl, (refl, (refl, (refl, (refl, (refl, (refl, (refl, (refl, (refl, (refl, (refl, (refl, tt)))))))))))))))

pub register_is_name : (r : ℕ) → r < 2 ^ 5 → IsName (abi r)
register_is_name r lt = named (abi r) (each_at (λ r. is_name (abi r) ≡ true) 32 r each_register lt)

pub set_is_name : (s : ℕ) → 0 < s → s < 2 ^ 4 → IsName (set_name s)
set_is_name zero some lt = absurd (omega (arith, some))
set_is_name (suc s) some lt = named (set_name (suc s)) (each_at (λ s. is_name (set_name (suc s)) ≡ true) 15 s each_set (omega arith))

pub mnemonic_is_name : (o : Mnemonic) → IsName (name_of o)
mnemonic_is_name m.Lui = named _ refl
mnemonic_is_name m.Auipc = named _ refl
mnemonic_is_name m.Jal = named _ refl
mnemonic_is_name m.Jalr = named _ refl
mnemonic_is_name m.Fence = named _ refl
mnemonic_is_name m.Ecall = named _ refl
mnemonic_is_name m.Ebreak = named _ refl
mnemonic_is_name m.LoadReserved = named _ refl
mnemonic_is_name m.StoreConditional = named _ refl
mnemonic_is_name (m.Branch Beq) = named _ refl
mnemonic_is_name (m.Branch _) = named _ refl
mnemonic_is_name (m.Load Lb) = named _ refl
mnemonic_is_name (m.Load _) = named _ refl
mnemonic_is_name (m.Store Sb) = named _ refl
mnemonic_is_name (m.Store _) = named _ refl
mnemonic_is_name (m.Immediate Addi) = named _ refl
mnemonic_is_name (m.Immediate _) = named _ refl
mnemonic_is_name (m.Shift Slli) = named _ refl
mnemonic_is_name (m.Shift _) = named _ refl
mnemonic_is_name (m.Register Add) = named _ refl
mnemonic_is_name (m.Register _) = named _ refl
mnemonic_is_name (m.Amo Amoswap) = named _ refl
mnemonic_is_name (m.Amo _) = named _ refl
