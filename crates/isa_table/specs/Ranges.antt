-- Signed fields and the 32-bit words that they are extended to.
use Rattle.std.specs.Prelude.{ℕ, ◌+◌, ◌-◌, ◌^◌, ◌<◌, ◌≤◌, ◌⊎◌, nat_lt, if◌then◌else◌}

-- the 32-bit word that a field of this many bits gives by sign extension
abbrev pub sign_extend : ℕ → ℕ → ℕ
sign_extend width field =
    if nat_lt field (2 ^ (width - 1)) then field else field + (2 ^ 32 - 2 ^ width)

-- a 32-bit word that is the sign extension of its low bits, this many
abbrev pub IsSignedWord : ℕ → ℕ → Type 0
IsSignedWord width word =
    (word < 2 ^ (width - 1)) ⊎ ((2 ^ 32 - 2 ^ (width - 1) ≤ word) × (word < 2 ^ 32))
