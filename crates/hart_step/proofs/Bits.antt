-- Sums over binary digits are the words' bitwise operations.
use Rattle.std.proofs.Common.{◌≡◌, ℕ, zero, suc, ◌+◌, ◌*◌, ◌/◌, ◌%◌, ◌^◌, ◌<◌, ◌≤◌, min, max, bit_and, bit_or, bit_xor, refl, sym, ap, ap₂, ◌∙◌, ◌⊎◌, inl, inr, arith}
use Rattle.std.specs.Int.{bit_at}
use Rattle.std.proofs.lemmas.Nat.Bits.{bit_at_lowest, bit_at-suc, bit_at_and, bit_at_or, bit_at_xor, same_from_bits, bit_at_above, bit_at-lt}
use Rattle.hart_step.specs.Values.{bitwise, one_of, both, either}

-- a function of two digits that gives a digit, and 0 for two zeros
record Digital (f : ℕ → ℕ → ℕ) : Type 0 where
  digit : (x y : ℕ) → x < 2 → y < 2 → f x y < 2
  none : f 0 0 ≡ 0

bitwise_lt : (f : ℕ → ℕ → ℕ) → Digital f → (n a b : ℕ) → bitwise n f a b < 2 ^ n
unfolding bitwise
bitwise_lt f d zero a b = omega arith
bitwise_lt f d (suc n) a b =
    let r = bitwise_lt f d n (a / 2) (b / 2) in
    let l = d.digit (a % 2) (b % 2) (omega arith) (omega arith) in
    omega arith

bits : (f : ℕ → ℕ → ℕ) → Digital f → (n a b i : ℕ) → i < n → bit_at (bitwise n f a b) i ≡ f (bit_at a i) (bit_at b i)
unfolding bitwise
bits f d zero a b i lt = absurd (omega arith)
bits f d (suc n) a b zero lt =
    let l = d.digit (a % 2) (b % 2) (omega arith) (omega arith) in
    let e : (f (a % 2) (b % 2) + 2 * bitwise n f (a / 2) (b / 2)) % 2 ≡ f (a % 2) (b % 2) = omega arith in
    bit_at_lowest (f (a % 2) (b % 2) + 2 * bitwise n f (a / 2) (b / 2)) ∙ e ∙ ap₂ f (sym (bit_at_lowest a)) (sym (bit_at_lowest b))
bits f d (suc n) a b (suc i) lt =
    let l = d.digit (a % 2) (b % 2) (omega arith) (omega arith) in
    let e : (f (a % 2) (b % 2) + 2 * bitwise n f (a / 2) (b / 2)) / 2 ≡ bitwise n f (a / 2) (b / 2) = omega arith in
    bit_at-suc (f (a % 2) (b % 2) + 2 * bitwise n f (a / 2) (b / 2)) i ∙ ap (λ (m : ℕ). bit_at m i) e
    ∙ bits f d n (a / 2) (b / 2) i (omega arith) ∙ ap₂ f (sym (bit_at-suc a i)) (sym (bit_at-suc b i))

-- a word's operation with these digits is the sum
same : (f g : ℕ → ℕ → ℕ) → Digital f → ((a b i : ℕ) → bit_at (g a b) i ≡ f (bit_at a i) (bit_at b i)) → (n a b : ℕ) → a < 2 ^ n → b < 2 ^ n → bitwise n f a b ≡ g a b
same f g d h n a b la lb = same_from_bits (bitwise n f a b) (g a b) (λ i. go i (below_or i))
  where
    below_or : (i : ℕ) → (i < n) ⊎ (n ≤ i)
    below_or i = grind arith

    go : (i : ℕ) → (i < n) ⊎ (n ≤ i) → bit_at (bitwise n f a b) i ≡ bit_at (g a b) i
    go i (inl lt) = bits f d n a b i lt ∙ sym (h a b i)
    go i (inr le) = bit_at_above (bitwise n f a b) n i (bitwise_lt f d n a b) le ∙ sym d.none
        ∙ ap₂ f (sym (bit_at_above a n i la le)) (sym (bit_at_above b n i lb le)) ∙ sym (h a b i)

one_of_digital : Digital one_of
one_of_digital = record { digit = λ x y lx ly. by_cases x y lx ly; none = refl }
  where
    by_cases : (x y : ℕ) → x < 2 → y < 2 → one_of x y < 2
    by_cases x y lx ly = grind arith

one_of_is : (x y : ℕ) → x < 2 → y < 2 → (x + y) % 2 ≡ one_of x y
one_of_is zero zero lx ly = refl
one_of_is zero (suc zero) lx ly = refl
one_of_is (suc zero) zero lx ly = refl
one_of_is (suc zero) (suc zero) lx ly = refl
one_of_is (suc (suc x)) y lx ly = absurd (omega arith)
one_of_is zero (suc (suc y)) lx ly = absurd (omega arith)
one_of_is (suc zero) (suc (suc y)) lx ly = absurd (omega arith)

pub bitwise_xor : (n a b : ℕ) → a < 2 ^ n → b < 2 ^ n → bitwise n one_of a b ≡ bit_xor a b
bitwise_xor = same one_of bit_xor one_of_digital (λ a b i. bit_at_xor a b i ∙ one_of_is (bit_at a i) (bit_at b i) (bit_at-lt a i) (bit_at-lt b i))

and_is : (x y : ℕ) → x < 2 → y < 2 → min x y ≡ both x y
and_is zero y lx ly = omega arith
and_is (suc zero) y lx ly = omega arith
and_is (suc (suc x)) y lx ly = absurd (omega arith)

or_is : (x y : ℕ) → x < 2 → y < 2 → max x y ≡ either x y
or_is zero y lx ly = omega arith
or_is (suc zero) y lx ly = omega arith
or_is (suc (suc x)) y lx ly = absurd (omega arith)

and_lt : (x y : ℕ) → x < 2 → y < 2 → both x y < 2
and_lt x y lx ly = rw (← and_is x y lx ly) (omega arith)

or_lt : (x y : ℕ) → x < 2 → y < 2 → either x y < 2
or_lt x y lx ly = rw (← or_is x y lx ly) (omega arith)

pub bitwise_and : (n a b : ℕ) → a < 2 ^ n → b < 2 ^ n → bitwise n both a b ≡ bit_and a b
bitwise_and = same both bit_and (record { digit = and_lt; none = refl }) (λ a b i. bit_at_and a b i ∙ and_is (bit_at a i) (bit_at b i) (bit_at-lt a i) (bit_at-lt b i))

pub bitwise_or : (n a b : ℕ) → a < 2 ^ n → b < 2 ^ n → bitwise n either a b ≡ bit_or a b
bitwise_or = same either bit_or (record { digit = or_lt; none = refl }) (λ a b i. bit_at_or a b i ∙ or_is (bit_at a i) (bit_at b i) (bit_at-lt a i) (bit_at-lt b i))
