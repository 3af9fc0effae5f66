-- accesses whose bytes all lie below 2^32
use Rattle.std.proofs.Common.{◌≡◌, ℕ, zero, suc, ◌+◌, ◌%◌, ◌^◌, ◌≤◌, Bool, cond, Option, Some, None, arith, ◌∙◌, ap, refl}
use Rattle.mem_store.specs.Memory.{Memory, granted, number_at, around}
use Rattle.mem_store.specs.Access.{fetched}

pub granted_around : (m : Memory) (n wanted a : ℕ) → a + n ≤ 2 ^ 32 → granted wanted (around m) n a ≡ granted wanted m n a
granted_around m zero wanted a fits = refl
granted_around m (suc n) wanted a fits =
    let place : (a + n) % 2 ^ 32 ≡ a + n = omega arith in
    rw (granted_around m n wanted a (omega arith), place) refl

pub number_around : (m : Memory) (n a : ℕ) → a + n ≤ 2 ^ 32 → number_at (around m).bytes n a ≡ number_at m.bytes n a
number_around m zero a fits = refl
number_around m (suc n) a fits =
    let place : (a + n) % 2 ^ 32 ≡ a + n = omega arith in
    rw (number_around m n a (omega arith), place) refl

-- the number, if its bytes are granted
pub word_around : (m : Memory) (n wanted a : ℕ) → a + n ≤ 2 ^ 32
    → cond (granted wanted (around m) n a) (Some (number_at (around m).bytes n a)) None ≡ cond (granted wanted m n a) (Some (number_at m.bytes n a)) None
word_around m n wanted a fits =
    ap (λ (t : Bool). cond t (Some (number_at (around m).bytes n a)) None) (granted_around m n wanted a fits)
    ∙ ap (λ (v : ℕ). cond (granted wanted m n a) (Some v) None) (number_around m n a fits)

pub fetched_below : (m : Memory) (a : ℕ) → a + 4 ≤ 2 ^ 32 → fetched m a ≡ cond (granted 1 m 4 a) (Some (number_at m.bytes 4 a)) None
fetched_below m a fits = word_around m 4 1 a fits
