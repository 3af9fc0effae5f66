-- Words as their four bytes.
use Rattle.std.specs.Prelude.{ℕ, ◌+◌, ◌-◌, ◌&&◌, nat_le, nat_lt, if◌then◌else◌, [], ◌∷◌, Option, Some, None, slice_index}
use Rattle.bank_laws.specs.Banks.{WordBytes}

-- the four bytes from an address on
abbrev pub bytes_at : (ℕ → ℕ) → ℕ → WordBytes
bytes_at bytes x = bytes x ∷ bytes (x + 1) ∷ bytes (x + 2) ∷ bytes (x + 3) ∷ []

-- bytes with the four from an address on replaced
abbrev pub with_four : (ℕ → ℕ) → ℕ → WordBytes → ℕ → ℕ
with_four bytes x v a = if nat_le x a && nat_lt a (x + 4) then slice_index v (a - x) else bytes a

-- the same, if there is an address
abbrev pub with_four_if : (ℕ → ℕ) → Option ℕ → WordBytes → ℕ → ℕ
with_four_if bytes None v = bytes
with_four_if bytes (Some x) v = with_four bytes x v
