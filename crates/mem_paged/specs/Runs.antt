-- Runs of bytes that are mapped together.
use Rattle.std.specs.Prelude.{ℕ, ◌+◌, ◌-◌, Bool, ◌&&◌, nat_le, nat_lt, if◌then◌else◌, List, Some, slice_index}
use Rattle.mem_store.specs.Memory.{Memory}

-- whether x is one of the n numbers from a on
abbrev pub in_run : ℕ → ℕ → ℕ → Bool
in_run a n x = nat_le a x && nat_lt x (a + n)

-- the byte at x: the n bytes from a on are those of a list from byte i on, the others as before
abbrev pub byte_of_run : ℕ → ℕ → List ℕ → ℕ → ℕ → ℕ → ℕ
byte_of_run a n bytes i old x = if in_run a n x then slice_index bytes (i + (x - a)) else old

-- a memory with such a run over it, whose bytes have the same rights
abbrev pub with_run : Memory → ℕ → ℕ → ℕ → List ℕ → ℕ → Memory
with_run m a n right bytes i = record {
  rights = λ x. if in_run a n x then Some right else m.rights x;
  bytes = λ x. byte_of_run a n bytes i (m.bytes x) x;
}
