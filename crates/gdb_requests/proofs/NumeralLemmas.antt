-- Numbers of digits are numerals of base 16.
use Rattle.std.proofs.Common.{◌≡◌, ℕ, ◌+◌, ◌-◌, ◌*◌, ◌^◌, ◌&&◌, nat_le, ◌<◌, ◌≤◌, ◌==◌, nat_lt, Bool, true, false, if◌then◌else◌, List, [], ◌∷◌, length, Option, Some, None, arith, refl, ap, sym, ◌∙◌, ltb-true, ne_eqb, subst}
use Rattle.std.specs.Char.{digit_value}
use Rattle.std.specs.Str.Parse.{AllDigits, IsNumeral, digits_value, digits_value_after}
use Rattle.gdb_frames.specs.Digits.{hex_value}
use Rattle.gdb_requests.specs.Numbers.{hex_digits_after, hex_number, in_32_bits, with_hex_digit}
use Rattle.gdb_requests.proofs.NumberLemmas.{fits_32, of_digits}

none_value : (b : ℕ) → hex_value b ≡ None → 16 ≤ digit_value b
none_value b e = grind arith

some_same : (a b : ℕ) → Some a ≡ Some b → a ≡ b
some_same a b e = cc

decimal_value : (b : ℕ) → 48 ≤ b → b ≤ 57 → digit_value b ≡ b - 48
decimal_value b low high = grind arith

upper_value : (b : ℕ) → 65 ≤ b → b ≤ 70 → digit_value b ≡ b - 55
upper_value b low high = grind arith

lower_value : (b : ℕ) → 97 ≤ b → b ≤ 102 → digit_value b ≡ b - 87
lower_value b low high = grind arith

between : (low high b : ℕ) → (nat_le low b && nat_le b high) ≡ true → (low ≤ b) × (b ≤ high)
between low high b e = (grind (arith, e), grind (arith, e))

by_range : (t u v : Bool) (b d : ℕ) → (nat_le 48 b && nat_le b 57) ≡ t → (nat_le 65 b && nat_le b 70) ≡ u
    → (nat_le 97 b && nat_le b 102) ≡ v
    → (if t then Some (b - 48) else (if u then Some (b - 55) else (if v then Some (b - 87) else None))) ≡ Some d
    → digit_value b ≡ d
by_range true u v b d et eu ev e = let r = between 48 57 b et in decimal_value b r.0 r.1 ∙ some_same (b - 48) d e
by_range false true v b d et eu ev e = let r = between 65 70 b eu in upper_value b r.0 r.1 ∙ some_same (b - 55) d e
by_range false false true b d et eu ev e = let r = between 97 102 b ev in lower_value b r.0 r.1 ∙ some_same (b - 87) d e
by_range false false false b d et eu ev e = absurd (cc)

some_value : (b d : ℕ) → hex_value b ≡ Some d → digit_value b ≡ d
some_value b d e =
    by_range (nat_le 48 b && nat_le b 57) (nat_le 65 b && nat_le b 70) (nat_le 97 b && nat_le b 102) b d refl refl refl e

some_small : (b d : ℕ) → hex_value b ≡ Some d → d < 16
some_small b d e = grind arith

-- what the number of digits behind those of n says of them
abbrev DigitsTold : ℕ → List ℕ → Option ℕ → Type 0
DigitsTold n ds None = AllDigits 16 ds → ⊥
DigitsTold n ds (Some m) = AllDigits 16 ds × (digits_value_after 16 n ds ≡ m)

one_digit : (n b d : ℕ) (ds : List ℕ) (o : Option ℕ) → hex_value b ≡ Some d
    → DigitsTold (16 * n + d) ds o → DigitsTold n (b ∷ ds) o
one_digit n b d ds None is told = λ all. told all.1
one_digit n b d ds (Some m) is told =
    let same : digit_value b ≡ d = some_value b d is in
    let small : digit_value b < 16 = omega (arith, same, some_small b d is) in
    let number : n * 16 + digit_value b ≡ 16 * n + d = omega (arith, same) in
    ((small, told.0), ap (λ k. digits_value_after 16 k ds) number ∙ told.1)

first_digit : (n b : ℕ) (ds : List ℕ) (o : Option ℕ) → hex_value b ≡ o
    → ((m : ℕ) → DigitsTold m ds (hex_digits_after m ds))
    → DigitsTold n (b ∷ ds) (with_hex_digit n (λ m. hex_digits_after m ds) o)
first_digit n b ds None is later = λ all. omega (arith, all.0, none_value b is)
first_digit n b ds (Some d) is later = one_digit n b d ds (hex_digits_after (16 * n + d) ds) is (later (16 * n + d))

digits_told : (n : ℕ) (ds : List ℕ) → DigitsTold n ds (hex_digits_after n ds)
unfolding hex_digits_after
digits_told n [] = (tt, refl)
digits_told n (b ∷ ds) = first_digit n b ds (hex_value b) refl (λ m. digits_told m ds)

below : (m n : ℕ) (t : Bool) → nat_lt m (2 ^ 32) ≡ t → (if t then Some m else None) ≡ Some n
    → (Some m ≡ Some n) × (n < 2 ^ 32)
below m n true fits e =
    let same : m ≡ n = some_same m n e in (e, omega (arith, ltb-true m (2 ^ 32) fits, same))
below m n false fits e = absurd (cc)

in_32 : (o : Option ℕ) (n : ℕ) → in_32_bits o ≡ Some n → (o ≡ Some n) × (n < 2 ^ 32)
in_32 None n e = absurd (cc)
in_32 (Some m) n e = below m n (nat_lt m (2 ^ 32)) refl e

-- a number is that of its digits
read_numeral : (text : List ℕ) (n : ℕ) (t : Bool) → (length text == 0) ≡ t
    → (if t then None else in_32_bits (hex_digits_after 0 text)) ≡ Some n
    → IsNumeral 16 text × (digits_value 16 text ≡ n) × (n < 2 ^ 32)
read_numeral text n true empty e = absurd (cc)
read_numeral text n false some e =
    let number = in_32 (hex_digits_after 0 text) n e in
    let told : DigitsTold 0 text (Some n) = subst (DigitsTold 0 text) number.0 (digits_told 0 text) in
    ((grind (arith, some), told.0), told.1, number.1)

pub numeral_of : (text : List ℕ) (n : ℕ) → hex_number text ≡ Some n
    → IsNumeral 16 text × (digits_value 16 text ≡ n) × (n < 2 ^ 32)
numeral_of text n e = read_numeral text n (length text == 0) refl e

told_number : (text : List ℕ) (n : ℕ) (o : Option ℕ) → DigitsTold 0 text o → o ≡ hex_digits_after 0 text
    → IsNumeral 16 text → digits_value 16 text ≡ n → n < 2 ^ 32 → Some n ≡ hex_number text
told_number text n None told is numeral value fits = absurd (told numeral.1)
told_number text n (Some m) told is numeral value fits =
    let same : m ≡ n = sym told.1 ∙ value in
    let some : (length text == 0) ≡ false = ne_eqb (length text) 0 (λ e. omega (arith, e, numeral.0)) in
    of_digits text (Some m) (Some n) some is (ap in_32_bits (ap Some same) ∙ fits_32 n fits)

-- digits give their number
pub number_of_numeral : (text : List ℕ) (n : ℕ) → IsNumeral 16 text × (digits_value 16 text ≡ n) × (n < 2 ^ 32)
    → hex_number text ≡ Some n
number_of_numeral text n h =
    sym (told_number text n (hex_digits_after 0 text) (digits_told 0 text) refl h.0 h.1 h.2)
