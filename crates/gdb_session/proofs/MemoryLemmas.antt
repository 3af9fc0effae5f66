-- Bytes in an answer, one more at a time.
use Rattle.std.proofs.Common.{◌≡◌, ℕ, suc, ◌+◌, ◌-◌, ◌<◌, ◌≤◌, List, [], ◌++◌, ◌∙◌, Some, None, sym, ap, refl, append_assoc, append-nil, arith}
use Rattle.mem_store.specs.Memory.{Memory}
use Rattle.gdb_frames.specs.Frames.{two_digits}
use Rattle.gdb_replies.specs.Digits.{bytes_text}
use Rattle.gdb_session.specs.Memory.{byte_seen, mapped_bytes, onto_bytes}

-- what is left behind the byte at an offset
abbrev rest_of : Memory → ℕ → ℕ → ℕ → List ℕ
rest_of m a o n = mapped_bytes m (a + (o + 1)) (n - (o + 1))

-- while bytes are left, the next one's stands first
bytes_more : (m : Memory) (a o n : ℕ) → o < n
    → mapped_bytes m (a + o) (n - o) ≡ onto_bytes (byte_seen m (a + o)) (rest_of m a o n)
unfolding mapped_bytes
bytes_more m a o n left =
    let e : n - o ≡ suc (n - (o + 1)) = omega arith in
    let f : a + o + 1 ≡ a + (o + 1) = omega arith in
    rw e (rw f refl)

-- behind the last there is nothing
bytes_done : (m : Memory) (a o n : ℕ) → n ≤ o → mapped_bytes m a (n - o) ≡ []
unfolding mapped_bytes
bytes_done m a o n none = let e : n - o ≡ 0 = omega arith in rw e refl

-- one byte more
pub next_byte : (m : Memory) (before longer all : List ℕ) (a o n byte : ℕ) → o < n
    → byte_seen m (a + o) ≡ Some byte → longer ≡ before ++ two_digits byte
    → before ++ bytes_text (mapped_bytes m (a + o) (n - o)) ≡ all
    → longer ++ bytes_text (mapped_bytes m (a + (o + 1)) (n - (o + 1))) ≡ all
next_byte m before longer all a o n byte left is is_longer so_far =
    let rest = rest_of m a o n in
    let split = bytes_more m a o n left ∙ ap (λ b. onto_bytes b rest) is in
    ap (λ l. l ++ bytes_text rest) is_longer
    ∙ append_assoc before (two_digits byte) (bytes_text rest)
    ∙ ap (λ l. before ++ bytes_text l) (sym split) ∙ so_far

-- the next byte isn't mapped
pub none_mapped : (m : Memory) (out all : List ℕ) (a o n : ℕ) → o < n
    → byte_seen m (a + o) ≡ None
    → out ++ bytes_text (mapped_bytes m (a + o) (n - o)) ≡ all → out ≡ all
none_mapped m out all a o n left is so_far =
    let none = bytes_more m a o n left ∙ ap (λ b. onto_bytes b (rest_of m a o n)) is in
    sym (append-nil out) ∙ ap (λ l. out ++ bytes_text l) (sym none) ∙ so_far

-- all bytes are written
pub all_bytes : (m : Memory) (out all : List ℕ) (a o n : ℕ) → n ≤ o
    → out ++ bytes_text (mapped_bytes m a (n - o)) ≡ all → out ≡ all
all_bytes m out all a o n none so_far =
    sym (append-nil out) ∙ ap (λ l. out ++ bytes_text l) (sym (bytes_done m a o n none)) ∙ so_far
