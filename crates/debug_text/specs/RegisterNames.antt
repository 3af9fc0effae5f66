-- The registers that a command names.
use Rattle.std.specs.Prelude.{ℕ, zero, suc, ◌+◌, ◌==◌, nat_lt, List, [], ◌∷◌, drop, replicate, slice_index, slice_set, Option, Some, None, codes, if◌then◌else◌}
use Rattle.std.specs.Option.{option_map, option_and_then}
use Rattle.std.specs.Str.{bytes_eq}
use Rattle.isa_names.specs.Names.{abi}
use Rattle.debug_text.specs.Numbers.{decimal_of}
use Rattle.debug_text.specs.declared.register_names.Register.{Register}
use Rattle.debug_text.specs.declared.register_names.Register.TheVariants.{General, Pc}
use Rattle.debug_text.specs.declared.register_names.RegisterList.{RegisterList}

-- the first of n registers from register r on that has this name
unfoldable pub named_from : List ℕ → ℕ → ℕ → Option ℕ
named_from name r zero = None
named_from name r (suc n) = if bytes_eq name (abi r) then Some r else named_from name (r + 1) n

-- the register with this name of the ABI
unfoldable pub abi_named : List ℕ → Option ℕ
abi_named name = named_from name 0 32

-- a number, if it is a register's
abbrev pub below_32 : Option ℕ → Option ℕ
below_32 None = None
below_32 (Some number) = if nat_lt number 32 then Some number else None

-- the register with these digits behind `x`
abbrev pub register_numbered : List ℕ → Option ℕ
register_numbered digits = below_32 (decimal_of digits)

-- the register with a name: `pc`, a name of the ABI, `fp`, or `x` and a decimal number
abbrev pub register_named : List ℕ → Option Register
register_named name =
    if bytes_eq name (codes "pc") then Some Pc
    else (if bytes_eq name (codes "fp") then Some (General 8)
    else (if slice_index name 0 == 120 then option_map General (register_numbered (drop 1 name))
    else option_map General (abi_named name)))

-- no register
abbrev pub no_registers : RegisterList
no_registers = record { registers = replicate 33 None; count = 0 }

-- one register more, if that is not too many
abbrev pub with_register : RegisterList → Register → Option RegisterList
with_register list register =
    if nat_lt list.count 33
    then Some (record { registers = slice_set list.registers list.count (Some register); count = list.count + 1 })
    else None

-- a list and the registers with these names behind it, if each is one's and they are not too many
abbrev pub list_and : (RegisterList → Option RegisterList) → RegisterList → Option Register → Option RegisterList
list_and rest list None = None
list_and rest list (Some register) = option_and_then rest (with_register list register)

-- a list with the registers of these names behind it
unfoldable pub registers_named : RegisterList → List (List ℕ) → Option RegisterList
registers_named list [] = Some list
registers_named list (name ∷ names) =
    list_and (λ more. registers_named more names) list (register_named name)
