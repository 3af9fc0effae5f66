-- Numbers of any length, capped at 2^64 - 1.
use Rattle.std.proofs.Common.{◌≡◌, ℕ, ◌+◌, ◌-◌, ◌*◌, ◌^◌, ◌<◌, ◌≤◌, ◌==◌, nat_lt, true, false, if◌then◌else◌, List, [], ◌∷◌, drop, length, slice_index, Option, Some, None, arith, refl, ap, sym, ◌∙◌, ⊎_elim}
use Rattle.std.proofs.lemmas.Bool.{cases_lt}
use Rattle.std.proofs.lemmas.List.{at_drop_more, drop_all}
use Rattle.std.proofs.lemmas.Nat.{mul-le}
use Rattle.std.specs.Option.{option_map}
use Rattle.debug_text.specs.Numbers.{digit_in, hex_digit_value, held, held_number, number_after, with_digit}

-- numbers that are too large are capped alike
both_held : (x y : ℕ) → 2 ^ 64 - 1 ≤ x → 2 ^ 64 - 1 ≤ y → held x ≡ held y
both_held x y a b = omega (arith, a, b)

-- with one more digit, numbers that are capped alike are capped alike
same_digit : (base m n d : ℕ) → 0 < base → held m ≡ held n → held (m * base + d) ≡ held (n * base + d)
same_digit base m n d some same = ⊎_elim
    (λ (small : m < 2 ^ 64 - 1). let e : m ≡ n = omega (arith, small, same) in ap (λ k. held (k * base + d)) e)
    (λ (large : 2 ^ 64 - 1 ≤ m).
    let other : 2 ^ 64 - 1 ≤ n = omega (arith, large, same) in
    let one : 1 ≤ base = omega (arith, some) in
    let p : m * 1 ≤ m * base = mul-le m 1 m base (omega arith) one in
    let q : n * 1 ≤ n * base = mul-le n 1 n base (omega arith) one in
    both_held (m * base + d) (n * base + d) (omega (arith, p, large)) (omega (arith, q, other)))
    (cases_lt m (2 ^ 64 - 1))

-- digits after numbers that are capped alike
after_digit : (base m n : ℕ) (bs : List ℕ) (o : Option ℕ) → 0 < base → held m ≡ held n
    → ((x y : ℕ) → held x ≡ held y → option_map held (number_after base x bs) ≡ option_map held (number_after base y bs))
    → option_map held (with_digit base m (λ k. number_after base k bs) o) ≡ option_map held (with_digit base n (λ k. number_after base k bs) o)
after_digit base m n bs None some same rest = refl
after_digit base m n bs (Some d) some same rest = rest (m * base + d) (n * base + d) (same_digit base m n d some same)

same_after : (base m n : ℕ) (bs : List ℕ) → 0 < base → held m ≡ held n
    → option_map held (number_after base m bs) ≡ option_map held (number_after base n bs)
unfolding number_after
same_after base m n [] some same = ap Some same
same_after base m n (b ∷ bs) some same =
    after_digit base m n bs (digit_in base (hex_digit_value b)) some same (λ x y e. same_after base x y bs some e)

-- one more digit, capped at once or later
one_digit : (base n d : ℕ) (bs : List ℕ) → 0 < base
    → option_map held (number_after base (held (held (n * base) + d)) bs) ≡ option_map held (number_after base (n * base + d) bs)
one_digit base n d bs some = same_after base (held (held (n * base) + d)) (n * base + d) bs some (omega arith)

-- a digit is taken
pub next_digit : (base n i r d : ℕ) (bs : List ℕ) → 0 < base → i < length bs → hex_digit_value (slice_index bs i) ≡ Some d → nat_lt d base ≡ true
    → r ≡ held (held (n * base) + d)
    → option_map held (number_after base r (drop (i + 1) bs)) ≡ option_map held (number_after base n (drop i bs))
unfolding number_after
next_digit base n i r d bs some inside is small e =
    ap (λ m. option_map held (number_after base m (drop (i + 1) bs))) e
    ∙ one_digit base n d (drop (i + 1) bs) some
    ∙ sym (at_drop_more (λ l. option_map held (number_after base n l)) bs i 0 inside
    ∙ ap (λ o. option_map held (with_digit base n (λ m. number_after base m (drop (i + 1) bs)) (digit_in base o))) is
    ∙ ap (λ t. option_map held (with_digit base n (λ m. number_after base m (drop (i + 1) bs)) (if t then Some d else None))) small)

-- all digits were taken
pub all_digits : (base n i : ℕ) (bs : List ℕ) → n < 2 ^ 64 → length bs ≤ i → (length bs == 0) ≡ false
    → option_map held (number_after base n (drop i bs)) ≡ option_map held (number_after base 0 bs) → Some n ≡ held_number base bs
unfolding number_after
all_digits base n i bs fits ended some so_far =
    let whole : n ≡ held n = omega (arith, fits) in
    ap Some whole
    ∙ ap (λ l. option_map held (number_after base n l)) (sym (drop_all i bs ended))
    ∙ so_far
    ∙ ap (λ t. option_map held (if t then None else number_after base 0 bs)) (sym some)
