-- The number that bytes of memory spell.
use Rattle.std.specs.Prelude.{◌≡◌, ◌⊎◌, ℕ, ◌+◌, ◌^◌, Bool, ◌&&◌, nat_le, if◌then◌else◌, Option, Some, None, is_some}
use Rattle.mem_store.specs.Memory.{Memory, all_below, number_at}
use Rattle.hart_step.specs.declared.data_access.Access.{Access}

-- whether the n bytes from an address on are all mapped: none is at 2 ^ 32 or above
abbrev pub are_mapped : Memory → ℕ → ℕ → Bool
are_mapped m n address =
    nat_le (address + n) (2 ^ 32) && all_below n (λ k. is_some (m.rights (address + k)))

-- the number that n bytes spell, the lowest first, whatever their rights; none where they are not
-- all mapped
abbrev pub number_there : Memory → ℕ → ℕ → Option ℕ
number_there m n address = if are_mapped m n address then Some (number_at m.bytes n address) else None

-- an access has 1, 2 or 4 bytes
abbrev pub IsSize : ℕ → Type 0
IsSize n = (n ≡ 1) ⊎ (n ≡ 2) ⊎ (n ≡ 4)

-- the number that the bytes of an access spell, if there is one
abbrev pub bytes_number : Memory → Option Access → Option ℕ
bytes_number m None = None
bytes_number m (Some a) = number_there m a.size a.address
