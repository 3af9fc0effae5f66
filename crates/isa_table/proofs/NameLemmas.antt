-- The mnemonics by their names.
use Rattle.std.proofs.Common.{ℕ, suc, ◌≡◌, ◌∙◌, ◌↔◌, refl, sym, ap, Bool, true, false, cond, List, [], ◌∷◌, map, Some, slice_get}
use Rattle.std.specs.Str.{bytes_eq}
use Rattle.std.proofs.lemmas.Option.{same_Some}
use Rattle.std.proofs.lemmas.Slice.Eq.{bytes_eq-Decides}
use Rattle.isa_table.specs.Names.{name_of, first_with_name}
use Rattle.isa_table.specs.Table.{mnemonics, row_of, rows, encoding}
use Rattle.isa_table.specs.declared.table.Row.{Row}
use Rattle.isa_table.specs.declared.mnemonic.Mnemonic.{Mnemonic}
use Rattle.isa_table.specs.declared.mnemonic.Mnemonic.TheVariants.{Lui, Auipc, Jal, Jalr, Branch, Load, Store, Immediate, Shift, Register, Fence, Ecall, Ebreak, LoadReserved, StoreConditional, Amo}
use Rattle.isa_table.specs.declared.mnemonic.BranchOp.TheVariants.{Beq}
use Rattle.isa_table.specs.declared.mnemonic.LoadOp.TheVariants.{Lb}
use Rattle.isa_table.specs.declared.mnemonic.StoreOp.TheVariants.{Sb}
use Rattle.isa_table.specs.declared.mnemonic.ImmediateOp.TheVariants.{Addi}
use Rattle.isa_table.specs.declared.mnemonic.ShiftOp.TheVariants.{Slli}
use Rattle.isa_table.specs.declared.mnemonic.RegisterOp.TheVariants.{Add}
use Rattle.isa_table.specs.declared.mnemonic.AmoOp.TheVariants.{Amoswap}

-- each mnemonic is the first with its name
pub own_name : (m : Mnemonic) → first_with_name mnemonics (name_of m) ≡ Some m
unfolding first_with_name
own_name Lui = refl
own_name Auipc = refl
own_name Jal = refl
own_name Jalr = refl
own_name (Branch Beq) = refl
own_name (Branch _) = refl
own_name (Load Lb) = refl
own_name (Load _) = refl
own_name (Store Sb) = refl
own_name (Store _) = refl
own_name (Immediate Addi) = refl
own_name (Immediate _) = refl
own_name (Shift Slli) = refl
own_name (Shift _) = refl
own_name (Register Add) = refl
own_name (Register _) = refl
own_name Fence = refl
own_name Ecall = refl
own_name Ebreak = refl
own_name LoadReserved = refl
own_name StoreConditional = refl
own_name (Amo Amoswap) = refl
own_name (Amo _) = refl

-- what is found has the name
has_name : (ms : List Mnemonic) (name : List ℕ) (m : Mnemonic) → first_with_name ms name ≡ Some m → name ≡ name_of m
unfolding first_with_name
has_name [] name m e = cc
has_name (x ∷ xs) name m e = go (has_name xs name m) (bytes_eq (name_of x) name) refl e
  where
    go : (first_with_name xs name ≡ Some m → name ≡ name_of m) → (same : Bool) → bytes_eq (name_of x) name ≡ same
        → cond same (Some x) (first_with_name xs name) ≡ Some m → name ≡ name_of m
    go further true is found = sym ((bytes_eq-Decides (name_of x) name).0 is) ∙ ap name_of (same_Some x m found)
    go further false other found = further found

-- a name is found exactly as its mnemonic's
pub name_found : (name : List ℕ) (m : Mnemonic) → (first_with_name mnemonics name ≡ Some m) ↔ (name ≡ name_of m)
name_found name m = (has_name mnemonics name m, λ is. ap (first_with_name mnemonics) is ∙ own_name m)

-- a mnemonic has a row in a table
abbrev HasRow : List Mnemonic → Mnemonic → Type 0
HasRow ms m = (k : ℕ) × (slice_get (map row_of ms) k ≡ Some (row_of m))

-- what is found has a row in the table
found_has_row : (ms : List Mnemonic) (name : List ℕ) (m : Mnemonic) → first_with_name ms name ≡ Some m → HasRow ms m
unfolding first_with_name
found_has_row [] name m e = cc
found_has_row (x ∷ xs) name m e = go (found_has_row xs name m) (bytes_eq (name_of x) name) e
  where
    go : (first_with_name xs name ≡ Some m → HasRow xs m) → (same : Bool)
        → cond same (Some x) (first_with_name xs name) ≡ Some m → HasRow (x ∷ xs) m
    go further true found = (0, ap (λ v. Some (row_of v)) (same_Some x m found))
    go further false found = let row = further found in (suc row.0, row.1)

-- each mnemonic has a row
pub has_row : (m : Mnemonic) → HasRow mnemonics m
has_row m = found_has_row mnemonics (name_of m) m (own_name m)

encoded : (rs : List Row) → map (λ r. r.mnemonic) (map encoding rs) ≡ map (λ r. r.mnemonic) rs
encoded [] = refl
encoded (r ∷ rs) = ap (λ ms. r.mnemonic ∷ ms) (encoded rs)

-- the mnemonics of the program's table
pub mnemonics_of : (rs : List Row) → map encoding rs ≡ rows → map (λ r. r.mnemonic) rs ≡ mnemonics
mnemonics_of rs e = sym (encoded rs) ∙ ap (map (λ r. r.mnemonic)) e
