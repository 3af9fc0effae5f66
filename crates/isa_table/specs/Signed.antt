-- Words as signed numbers.
use Rattle.std.specs.Prelude.{ℕ, ℤ, pos, ◌^◌, ◌-ℤ◌, nat_lt, if◌then◌else◌}

-- a 32-bit word as a signed number: itself below 2^31, else less 2^32
abbrev pub signed_of : ℕ → ℤ
signed_of word = if nat_lt word (2 ^ 31) then pos word else pos word -ℤ pos (2 ^ 32)
