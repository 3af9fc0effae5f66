-- Numbers of hexadecimal digits.
use Rattle.std.proofs.Common.{◌≡◌, ℕ, ◌+◌, ◌*◌, ◌^◌, ◌<◌, ◌≤◌, ◌==◌, nat_lt, true, false, if◌then◌else◌, List, [], ◌∷◌, drop, length, get_or, Option, Some, None, arith, refl, ap, sym, ◌∙◌}
use Rattle.std.proofs.lemmas.List.{at_drop_more, at_drop_all}
use Rattle.gdb_frames.specs.Digits.{hex_value}
use Rattle.gdb_requests.specs.Numbers.{hex_digits_after, hex_number, in_32_bits, with_hex_digit}

-- a digit is taken
pub digit_more : (n i d : ℕ) (bs : List ℕ) → i < length bs → hex_value (get_or bs i 0) ≡ Some d
    → hex_digits_after n (drop i bs) ≡ hex_digits_after (16 * n + d) (drop (i + 1) bs)
unfolding hex_digits_after
digit_more n i d bs inside is =
    at_drop_more (hex_digits_after n) bs i 0 inside
    ∙ ap (λ o. with_hex_digit n (λ m. hex_digits_after m (drop (i + 1) bs)) o) is

-- a byte is no digit
pub no_digit : (n i : ℕ) (bs : List ℕ) → i < length bs → hex_value (get_or bs i 0) ≡ None
    → hex_digits_after n (drop i bs) ≡ None
unfolding hex_digits_after
no_digit n i bs inside is =
    at_drop_more (hex_digits_after n) bs i 0 inside
    ∙ ap (λ o. with_hex_digit n (λ m. hex_digits_after m (drop (i + 1) bs)) o) is

abbrev AtLeast : ℕ → Option ℕ → Type 0
AtLeast n None = Unit {0}
AtLeast n (Some m) = n ≤ m

lower : (n k : ℕ) (o : Option ℕ) → n ≤ k → AtLeast k o → AtLeast n o
lower n k None le h = tt
lower n k (Some m) le h = omega (arith, le, h)

grows_by : (n : ℕ) (bs : List ℕ) (o : Option ℕ) → ((m : ℕ) → AtLeast m (hex_digits_after m bs))
    → AtLeast n (with_hex_digit n (λ m. hex_digits_after m bs) o)
grows_by n bs None later = tt
grows_by n bs (Some d) later = lower n (16 * n + d) (hex_digits_after (16 * n + d) bs) (omega arith) (later (16 * n + d))

-- no digit makes a number less
grows : (n : ℕ) (bs : List ℕ) → AtLeast n (hex_digits_after n bs)
unfolding hex_digits_after
grows n [] = omega arith
grows n (b ∷ bs) = grows_by n bs (hex_value b) (λ m. grows m bs)

large : (k : ℕ) (o : Option ℕ) → 2 ^ 32 ≤ k → AtLeast k o → in_32_bits o ≡ None
large k None le h = refl
large k (Some m) le h = let no : nat_lt m (2 ^ 32) ≡ false = search (arith, le, h) in rw no refl

-- a number has too many digits
pub too_large : (n i d : ℕ) (bs : List ℕ) → i < length bs → hex_value (get_or bs i 0) ≡ Some d → 2 ^ 28 ≤ n
    → in_32_bits (hex_digits_after n (drop i bs)) ≡ None
too_large n i d bs inside is le =
    ap in_32_bits (digit_more n i d bs inside is)
    ∙ large (16 * n + d) (hex_digits_after (16 * n + d) (drop (i + 1) bs)) (omega (arith, le)) (grows (16 * n + d) (drop (i + 1) bs))

-- what the digits give, if there are some
pub of_digits : (bs : List ℕ) (o r : Option ℕ) → (length bs == 0) ≡ false → o ≡ hex_digits_after 0 bs → in_32_bits o ≡ r
    → r ≡ hex_number bs
of_digits bs o r some is gives =
    sym gives ∙ ap in_32_bits is ∙ ap (λ t. if t then None else in_32_bits (hex_digits_after 0 bs)) (sym some)

-- all digits were taken
pub digits_end : (n i : ℕ) (bs : List ℕ) → length bs ≤ i → hex_digits_after n (drop i bs) ≡ Some n
unfolding hex_digits_after
digits_end n i bs ended = at_drop_all (hex_digits_after n) bs i ended

pub fits_32 : (n : ℕ) → n < 2 ^ 32 → in_32_bits (Some n) ≡ Some n
fits_32 n small = let yes_small : nat_lt n (2 ^ 32) ≡ true = search (arith, small) in rw yes_small refl
