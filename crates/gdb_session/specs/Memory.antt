-- Memory in an answer: GDB's manual, "Remote Serial Protocol", "Packets", `m`.
use Rattle.std.specs.Prelude.{ℕ, zero, suc, ◌+◌, ◌^◌, min, nat_lt, ◌==◌, not, ◌&&◌, List, [], ◌∷◌, Option, Some, None, if◌then◌else◌}
use Rattle.std.specs.Option.{is_some}
use Rattle.mem_store.specs.Memory.{Memory}
use Rattle.mem_store.specs.Access.{peeked}
use Rattle.gdb_replies.specs.Digits.{bytes_text}
use Rattle.gdb_replies.specs.Fixed.{fixed_text}
use Rattle.gdb_replies.specs.declared.fixed.FixedReply.TheVariants.{Unmapped}

-- the byte at an address, whatever its rights; none is above 2^32 - 1
abbrev pub byte_seen : Memory → ℕ → Option ℕ
byte_seen m a = if nat_lt a (2 ^ 32) then peeked m a else None

-- a byte in front of others, if it is there
abbrev pub onto_bytes : Option ℕ → List ℕ → List ℕ
onto_bytes None bytes = []
onto_bytes (Some byte) bytes = byte ∷ bytes

-- the bytes from an address on, n at most, up to the first that isn't mapped
unfoldable pub mapped_bytes : Memory → ℕ → ℕ → List ℕ
mapped_bytes m a zero = []
mapped_bytes m a (suc n) = onto_bytes (byte_seen m a) (mapped_bytes m (a + 1) n)

-- n bytes from an address on, 0x1fff at most; E14 if the first isn't mapped
unfoldable pub memory_text : Memory → ℕ → ℕ → List ℕ
memory_text m a n =
    if not (n == 0) && not (is_some (byte_seen m a)) then fixed_text Unmapped
    else bytes_text (mapped_bytes m a (min n 8191))
