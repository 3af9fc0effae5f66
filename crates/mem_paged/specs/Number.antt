-- Numbers to store.
use Rattle.std.specs.Prelude.{ℕ}
use Rattle.mem_paged.specs.declared.number.Number.{Number}
use Rattle.mem_paged.specs.declared.number.Number.TheVariants.{Byte, Half, Word}

-- the width of a number in bytes
abbrev pub width_of : Number → ℕ
width_of (Byte value) = 1
width_of (Half value) = 2
width_of (Word value) = 4

-- the value of a number
abbrev pub stored_value : Number → ℕ
stored_value (Byte value) = value
stored_value (Half value) = value
stored_value (Word value) = value
