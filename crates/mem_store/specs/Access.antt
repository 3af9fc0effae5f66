-- Accesses of memory: their results, and the memory after them.
use Rattle.std.specs.Prelude.{◌≡◌, ℕ, ◌%◌, ◌≢◌, Bool, true, false, ◌==◌, if◌then◌else◌, Option, Some, None, Result, Ok, Err, IsTrue}
use Rattle.mem_store.specs.Memory.{Memory, to_execute, to_write, to_load, granted, number_at, around, stored}
use Rattle.mem_store.specs.declared.store.AccessFault.{AccessFault}
use Rattle.mem_store.specs.declared.store.AccessFault.TheVariants as access
use Rattle.mem_store.specs.declared.store.StoreFault.{StoreFault}
use Rattle.mem_store.specs.declared.store.StoreFault.TheVariants as storing

-- the result of a load of n bytes; misaligned is checked before the rights
abbrev pub loaded : Memory → ℕ → ℕ → Result ℕ AccessFault
loaded m n address =
    if address % n == 0
    then (if granted to_load m n address then Ok (number_at m.bytes n address) else Err access.Access)
    else Err access.Misaligned

-- the instruction word at an address, if each of its bytes is executable; their addresses are
-- modulo 2^32
abbrev pub fetched : Memory → ℕ → Option ℕ
fetched m address =
    if granted to_execute (around m) 4 address
    then Some (number_at (around m).bytes 4 address)
    else None

-- whether n bytes may be stored
abbrev pub storable : Memory → ℕ → ℕ → Result (Unit {0}) AccessFault
storable m n address =
    if address % n == 0
    then (if granted to_write m n address then Ok tt else Err access.Access)
    else Err access.Misaligned

-- the byte at an address, whatever its rights
abbrev pub peeked : Memory → ℕ → Option ℕ
peeked m address = if_mapped (m.rights address) (m.bytes address)
  where
    if_mapped : Option ℕ → ℕ → Option ℕ
    if_mapped None byte = None
    if_mapped (Some rights) byte = Some byte

-- the memory in which the n bytes from an address on spell the low digits of a value
abbrev pub written : ℕ → ℕ → ℕ → Memory → Memory
written n address value m = record { rights = m.rights; bytes = stored n address value m.bytes }

-- the reason why a store of n bytes fails, in the order of the checks
abbrev pub Refuses : Bool → ℕ → ℕ → Memory → StoreFault → Type 0
Refuses grows n address m storing.Misaligned = address % n ≢ 0
Refuses grows n address m storing.Access = (address % n ≡ 0) × (granted to_write m n address ≡ false)
Refuses grows n address m storing.Memory = (address % n ≡ 0) × (granted to_write m n address ≡ true) × IsTrue grows

-- a store of the low n bytes of a value: its result, and the memory after it
abbrev pub Stores : Bool → ℕ → ℕ → ℕ → Memory → Memory → Result (Unit {0}) StoreFault → Type 0
Stores grows n address value old new (Ok _) =
    (address % n ≡ 0) × (granted to_write old n address ≡ true) × (new ≡ written n address value old)
Stores grows n address value old new (Err fault) = Refuses grows n address old fault × (new ≡ old)
