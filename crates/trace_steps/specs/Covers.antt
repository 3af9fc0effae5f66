-- What was told of a register, of a byte of memory, and of a hart.
use Rattle.std.specs.Prelude.{◌≡◌, ◌≢◌, ℕ, ◌+◌, ◌&&◌, Bool, false, nat_le, nat_lt, Option, Some, None}
use Rattle.trace_steps.specs.declared.told.Told.{Told}
use Rattle.trace_steps.specs.declared.told.ToldAccess.{ToldAccess}
use Rattle.trace_steps.specs.declared.told.Written.{Written}

-- no register, or another, was written
abbrev pub IsNotWritten : ℕ → Option Written → Type 0
IsNotWritten r None = Unit {0}
IsNotWritten r (Some w) = w.register ≢ r

-- whether a byte is one of an access
abbrev pub covers : ℕ → Option ToldAccess → Bool
covers a None = false
covers a (Some c) = nat_le c.address a && nat_lt a (c.address + c.size)

-- no access of the choice covers a byte
abbrev pub IsElsewhere : ℕ → Told → Type 0
IsElsewhere a told = covers a told.access ≡ false

-- the choice is of another hart
abbrev pub IsOfAnother : ℕ → Told → Type 0
IsOfAnother k told = told.choice.hart ≢ k
