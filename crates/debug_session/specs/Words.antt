-- Words as a debugger shows them.
use Rattle.std.specs.Prelude.{ℕ, ◌+◌, Option, Some, None}
use Rattle.mem_store.specs.Memory.{Memory, little_endian}
use Rattle.mem_store.specs.Access.{peeked}

-- a byte, or 0 if it is not mapped
abbrev pub byte_or_zero : Option ℕ → ℕ
byte_or_zero None = 0
byte_or_zero (Some byte) = byte

-- the word at an aligned address, whatever its rights; bytes that are not mapped count as 0
unfoldable pub viewed_word : Memory → ℕ → ℕ
viewed_word m a = little_endian 4 (λ k. byte_or_zero (peeked m (a + k)))

-- the word at an address, or 0 if there is no address
abbrev pub word_if : Memory → Option ℕ → ℕ
word_if m None = 0
word_if m (Some a) = viewed_word m a
