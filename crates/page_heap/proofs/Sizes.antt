-- Sizes of blocks: powers of two, and the one for a request.
use prog.Memory.{capped}
use Rattle.std.proofs.Common.{◌≡◌, ℕ, zero, suc, ◌-◌, ◌*◌, ◌%◌, ◌^◌, ◌<◌, ◌≤◌, Bool, true, false, cond, ltb, refl, sym, ap, subst, lt-ltb, arith}
use Rattle.std.proofs.lemmas.Nat.{pow_pos}
use Rattle.std.specs.Int.{IsPowerOfTwo}
use Rattle.page_heap.specs.Memory.{IsBlockSize, IsRoomFor}

-- a power of two of 16 or more is a multiple of 16
whole_power : (k : ℕ) → 16 ≤ 2 ^ k → (2 ^ k) % 16 ≡ 0
whole_power zero large = absurd (omega arith)
whole_power (suc zero) large = absurd (omega arith)
whole_power (suc (suc zero)) large = absurd (omega arith)
whole_power (suc (suc (suc zero))) large = absurd (omega arith)
whole_power (suc (suc (suc (suc k)))) large = omega arith

whole : (m : ℕ) → IsPowerOfTwo m → 16 ≤ m → m % 16 ≡ 0
whole m p large = subst (λ (n : ℕ). n % 16 ≡ 0) (sym p.1) (whole_power p.0 (subst (λ (n : ℕ). 16 ≤ n) p.1 large))

pub room_is_whole : (n m : ℕ) → IsRoomFor n m → IsBlockSize m
room_is_whole n m is = (omega (arith, is.1.1), whole m is.1.0 (omega (arith, is.1.1)))

-- of two powers of two, the greater is twice the other at least
doubles : (j k : ℕ) → 2 ^ j < 2 ^ k → 2 * 2 ^ j ≤ 2 ^ k
doubles zero zero less = absurd (omega arith)
doubles (suc j) zero less = absurd (omega (arith, pow_pos j))
doubles zero (suc k) less = omega (arith, pow_pos k)
doubles (suc j) (suc k) less = let step = doubles j k (omega arith) in omega arith

doubled : (m n : ℕ) → IsPowerOfTwo m → IsPowerOfTwo n → m < n → 2 * m ≤ n
doubled m n p q less = subst (λ (u : ℕ × ℕ). 2 * u.0 ≤ u.1) (λ i. (sym p.1 i, sym q.1 i)) (doubles p.0 q.0 (subst (λ (u : ℕ × ℕ). u.0 < u.1) (λ i. (p.1 i, q.1 i)) less))

by_order : {X : Type 0} (m n : ℕ) → (m < n → X) → (n < m → X) → (m ≡ n → X) → X
by_order zero zero l g e = e refl
by_order zero (suc n) l g e = l (omega arith)
by_order (suc m) zero l g e = g (omega arith)
by_order (suc m) (suc n) l g e = by_order m n (λ t. l (omega arith)) (λ t. g (omega arith)) (λ t. e (ap suc t))

-- a request has one size of block
pub one_room : (n m k : ℕ) → IsRoomFor n m → IsRoomFor n k → m ≡ k
one_room n m k is is' = by_order m k
    (λ t. absurd (omega (arith, doubled m k is.1.0 is'.1.0 t, is.1.1, is'.1.2)))
    (λ t. absurd (omega (arith, doubled k m is'.1.0 is.1.0 t, is'.1.1, is.1.2)))
    (λ e. e)

-- a layout's size is the type's own, where either is below 2 ^ 63
by_cap : (b : Bool) (n s : ℕ) → cond b n (2 ^ 64 - 1) ≡ s → s < 2 ^ 63 → n ≡ s
by_cap true n s it small = it
by_cap false n s it small = absurd (omega arith)

pub uncapped : (n s : ℕ) → capped n ≡ s → s < 2 ^ 63 → n ≡ s
uncapped n s it small = by_cap (ltb n (2 ^ 64)) n s it small

pub laid_out : (n s : ℕ) → capped n ≡ s → n < 2 ^ 63 → n ≡ s
laid_out n s it small =
    subst (λ b. cond b n (2 ^ 64 - 1) ≡ s) (lt-ltb n (2 ^ 64) (omega arith)) it
