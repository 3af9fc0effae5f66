-- hexadecimal digits, two at a time
use Rattle.std.proofs.Common.{◌≡◌, ℕ, zero, suc, ◌+◌, ◌*◌, ◌/◌, ◌%◌, ◌^◌, ◌<◌, ◌≤◌, false, List, [], ◌∷◌, ◌++◌, length, length-append, get_or, refl, arith, rules, ap, sym, ◌∙◌, ⊎_elim, inl, inr, ◌-◌}
use Rattle.std.specs.Prelude.{◌==◌}
use Rattle.std.specs.Str.{IsAscii}
use Rattle.std.proofs.lemmas.Str.Ascii.{IsAscii-cons, IsAscii-nil}
use Rattle.std.proofs.lemmas.Bool.{cases_lt}
use Rattle.std.proofs.lemmas.Fmt.{decimal_digit, decimal_step, hex_one_digit, length-decimal-le}
use Rattle.std.proofs.lemmas.Grind.{common_steps}
use Rattle.std.specs.Fmt.{digit_glyph, digits_onto, digits, decimal}
use Rattle.isa_table.specs.Ranges.{IsSignedWord}
use Rattle.isa_names.specs.Digits.{hex_onto, word_text, byte_text}
use Rattle.isa_disasm.specs.Pairs.{pairs_from}

-- the digits of the j-th number are at twice its place
high_from : (j first count : ℕ) → j < count → get_or (pairs_from first count) (2 * j) 0 ≡ digit_glyph false ((first + j) / 16 % 16)
unfolding pairs_from byte_text
high_from j first zero low = absurd (omega arith)
high_from zero first (suc count) low = let none : first + 0 ≡ first = omega arith in rw none refl
high_from (suc j) first (suc count) low =
    let place : 2 * suc j ≡ suc (suc (2 * j)) = omega arith in
    let next : first + suc j ≡ suc first + j = omega arith in
    rw place (rw next (high_from j (suc first) count (omega arith)))

low_from : (j first count : ℕ) → j < count → get_or (pairs_from first count) (2 * j + 1) 0 ≡ digit_glyph false ((first + j) % 16)
unfolding pairs_from byte_text
low_from j first zero low = absurd (omega arith)
low_from zero first (suc count) low = let none : first + 0 ≡ first = omega arith in rw none refl
low_from (suc j) first (suc count) low =
    let place : 2 * suc j + 1 ≡ suc (suc (2 * j + 1)) = omega arith in
    let next : first + suc j ≡ suc first + j = omega arith in
    rw place (rw next (low_from j (suc first) count (omega arith)))

-- the digits of a byte
pub high_at : (pairs : List ℕ) (byte : ℕ) → pairs ≡ pairs_from 0 256 → byte < 256 → get_or pairs (2 * byte) 0 ≡ digit_glyph false (byte / 16)
high_at pairs byte all low =
    let same : (0 + byte) / 16 % 16 ≡ byte / 16 = omega arith in
    ap (λ l. get_or l (2 * byte) 0) all ∙ high_from byte 0 256 low ∙ ap (digit_glyph false) same

pub low_at : (pairs : List ℕ) (byte : ℕ) → pairs ≡ pairs_from 0 256 → byte < 256 → get_or pairs (2 * byte + 1) 0 ≡ digit_glyph false (byte % 16)
low_at pairs byte all low =
    let same : (0 + byte) % 16 ≡ byte % 16 = omega arith in
    ap (λ l. get_or l (2 * byte + 1) 0) all ∙ low_from byte 0 256 low ∙ ap (digit_glyph false) same

-- a word's digits are those of its bytes
pub word_by_digits : (n a b c d e f g h : ℕ) → n < 2 ^ 32
    → a ≡ digit_glyph false (n / 0x1000000 / 16) → b ≡ digit_glyph false (n / 0x1000000 % 16)
    → c ≡ digit_glyph false (n / 0x10000 % 0x100 / 16) → d ≡ digit_glyph false (n / 0x10000 % 0x100 % 16)
    → e ≡ digit_glyph false (n / 0x100 % 0x100 / 16) → f ≡ digit_glyph false (n / 0x100 % 0x100 % 16)
    → g ≡ digit_glyph false (n % 0x100 / 16) → h ≡ digit_glyph false (n % 0x100 % 16)
    → a ∷ b ∷ c ∷ d ∷ e ∷ f ∷ g ∷ h ∷ [] ≡ word_text n
unfolding word_text
word_by_digits n a b c d e f g h small is_a is_b is_c is_d is_e is_f is_g is_h =
    let to_a : n / 0x1000000 / 16 ≡ n / 16 / 16 / 16 / 16 / 16 / 16 / 16 % 16 = omega arith in
    let to_b : n / 0x1000000 % 16 ≡ n / 16 / 16 / 16 / 16 / 16 / 16 % 16 = omega arith in
    let to_c : n / 0x10000 % 0x100 / 16 ≡ n / 16 / 16 / 16 / 16 / 16 % 16 = omega arith in
    let to_d : n / 0x10000 % 0x100 % 16 ≡ n / 16 / 16 / 16 / 16 % 16 = omega arith in
    let to_e : n / 0x100 % 0x100 / 16 ≡ n / 16 / 16 / 16 % 16 = omega arith in
    let to_f : n / 0x100 % 0x100 % 16 ≡ n / 16 / 16 % 16 = omega arith in
    let to_g : n % 0x100 / 16 ≡ n / 16 % 16 = omega arith in
    let to_h : n % 0x100 % 16 ≡ n % 16 = omega arith in
    rw (is_a, to_a, is_b, to_b, is_c, to_c, is_d, to_d, is_e, to_e, is_f, to_f, is_g, to_g, is_h, to_h) refl

pub length_word : (n : ℕ) → length (word_text n) ≡ 8
unfolding word_text
length_word n = refl

-- digits are ASCII
glyph_small : (d : ℕ) → d < 16 → digit_glyph false d < 128
glyph_small d lt = grind (arith, lt)

IsAscii-hex : (k n : ℕ) (text : List ℕ) → IsAscii text → IsAscii (hex_onto k n text)
IsAscii-hex zero n text h = h
IsAscii-hex (suc k) n text h = IsAscii-hex k (n / 16) (digit_glyph false (n % 16) ∷ text) (IsAscii-cons (digit_glyph false (n % 16)) text (glyph_small (n % 16) (omega arith)) h)

pub word_is_ascii : (n : ℕ) → IsAscii (word_text n)
unfolding word_text
word_is_ascii n = IsAscii-hex 8 n [] IsAscii-nil

pub digit_is_ascii : (byte d : ℕ) → byte ≡ digit_glyph false d → d < 16 → IsAscii (byte ∷ [])
digit_is_ascii byte d is small = rw is (IsAscii-cons (digit_glyph false d) [] (glyph_small d small) IsAscii-nil)

-- a number in decimal, by its last digit
decimal_glyph : (d : ℕ) → d < 10 → 48 + d ≡ digit_glyph false d
decimal_glyph d lt = grind (arith, lt)

pub decimal_one : (n : ℕ) → n < 10 → decimal n ≡ digit_glyph false n ∷ []
decimal_one n small = decimal_digit n small ∙ ap (λ d. d ∷ []) (decimal_glyph n small)

pub decimal_more : (n : ℕ) → 10 ≤ n → n < 2 ^ 32 → decimal n ≡ decimal (n / 10) ++ (digit_glyph false (n % 10) ∷ [])
decimal_more n large fits =
    decimal_step n large (omega arith) ∙ ap (λ d. decimal (n / 10) ++ (d ∷ [])) (decimal_glyph (n % 10) (omega arith))

pub length_decimal_one : (n : ℕ) → n < 10 → length (decimal n) ≡ 1
length_decimal_one n small = ap length (decimal_one n small)

pub length_decimal_more : (n : ℕ) → 10 ≤ n → n < 2 ^ 32 → length (decimal n) ≡ length (decimal (n / 10)) + 1
length_decimal_more n large fits = ap length (decimal_more n large fits) ∙ length-append (decimal (n / 10)) (digit_glyph false (n % 10) ∷ [])

-- and in hexadecimal
hex_last : (i n : ℕ) (acc : List ℕ) → n < 16 → digits_onto (suc i) 16 false n acc ≡ digit_glyph false (n % 16) ∷ acc
hex_last i n acc lt = let q : n / 16 ≡ 0 = omega arith in rw q refl

hex_front : (i n : ℕ) (acc : List ℕ) → 16 ≤ n → digits_onto (suc i) 16 false n acc ≡ digits_onto i 16 false (n / 16) (digit_glyph false (n % 16) ∷ acc)
hex_front i n acc le = let q : 0 < n / 16 = omega arith in let z : (n / 16 == 0) ≡ false = search (rules, common_steps) in rw z refl

-- what is behind the digits stays there
hex_behind : (i n : ℕ) (acc : List ℕ) → digits_onto i 16 false n acc ≡ digits_onto i 16 false n [] ++ acc
hex_behind zero n acc = refl
hex_behind (suc i) n acc = ⊎_elim
    (λ small. hex_last i n acc small ∙ ap (λ l. l ++ acc) (sym (hex_last i n [] small)))
    (λ large.
    let g = digit_glyph false (n % 16) in
    let joined : digits_onto i 16 false (n / 16) [] ++ (g ∷ acc) ≡ (digits_onto i 16 false (n / 16) [] ++ (g ∷ [])) ++ acc = search (rules, common_steps) in
    hex_front i n acc large ∙ hex_behind i (n / 16) (g ∷ acc) ∙ joined
    ∙ ap (λ l. l ++ acc) (sym (hex_front i n [] large ∙ hex_behind i (n / 16) (g ∷ []))))
    (cases_lt n 16)

-- a place more than the digits need changes nothing
hex_enough : (i n : ℕ) (acc : List ℕ) → n < 16 ^ suc i → digits_onto (suc (suc i)) 16 false n acc ≡ digits_onto (suc i) 16 false n acc
hex_enough zero n acc fits =
    let small : n < 16 = omega arith in
    hex_last 1 n acc small ∙ sym (hex_last 0 n acc small)
hex_enough (suc i) n acc fits = ⊎_elim
    (λ small. hex_last (suc (suc i)) n acc small ∙ sym (hex_last (suc i) n acc small))
    (λ large.
    let power : 16 ^ suc (suc i) ≡ 16 * 16 ^ suc i = grind arith in
    let wide : n < 16 * 16 ^ suc i = rw power at fits in
    let g = digit_glyph false (n % 16) in
    hex_front (suc (suc i)) n acc large ∙ hex_enough i (n / 16) (g ∷ acc) (omega arith) ∙ sym (hex_front (suc i) n acc large))
    (cases_lt n 16)

pub hex_one : (n : ℕ) → n < 16 → digits 16 false n ≡ digit_glyph false n ∷ []
hex_one n small = hex_one_digit false n small

pub hex_more : (n : ℕ) → 16 ≤ n → n < 2 ^ 32 → digits 16 false n ≡ digits 16 false (n / 16) ++ (digit_glyph false (n % 16) ∷ [])
unfolding digits
hex_more n large fits =
    hex_front 63 n [] large ∙ sym (hex_enough 62 (n / 16) (digit_glyph false (n % 16) ∷ []) (omega arith)) ∙ hex_behind 64 (n / 16) (digit_glyph false (n % 16) ∷ [])

pub length_hex_one : (n : ℕ) → n < 16 → length (digits 16 false n) ≡ 1
length_hex_one n small = ap length (hex_one n small)

pub length_hex_more : (n : ℕ) → 16 ≤ n → n < 2 ^ 32 → length (digits 16 false n) ≡ length (digits 16 false (n / 16)) + 1
length_hex_more n large fits = ap length (hex_more n large fits) ∙ length-append (digits 16 false (n / 16)) (digit_glyph false (n % 16) ∷ [])

-- the numbers of operands are short
pub amount_short : (n : ℕ) → n < 2 ^ 5 → length (decimal n) ≤ 2
amount_short n small = length-decimal-le 2 n (omega arith) (omega arith) (omega arith)

pub low_short : (n : ℕ) → n < 2048 → length (decimal n) ≤ 4
low_short n small = length-decimal-le 4 n (omega arith) (omega arith) (omega arith)

pub high_short : (n : ℕ) → 2 ^ 32 - 2048 ≤ n → n < 2 ^ 32 → length (decimal (2 ^ 32 - 1 - n + 1)) ≤ 4
high_short n low high = length-decimal-le 4 (2 ^ 32 - 1 - n + 1) (omega arith) (omega arith) (omega arith)

-- a word that is a negative number of twelve bits
pub is_high : (word n : ℕ) → word ≡ n → IsSignedWord 12 n → 2048 ≤ word → (2 ^ 32 - 2048 ≤ word) × (word < 2 ^ 32)
is_high word n same (inl small) large = absurd (omega arith)
is_high word n same (inr high) large = (omega (arith, high.0), omega (arith, high.1))

-- the immediate of LUI has five digits at most
hex_within : (k n : ℕ) → n < 2 ^ 32 → n < 16 ^ suc k → length (digits 16 false n) ≤ suc k
hex_within zero n fits small = let few : n < 16 = omega arith in omega (arith, length_hex_one n few)
hex_within (suc k) n fits small = ⊎_elim
    (λ few. omega (arith, length_hex_one n few))
    (λ large.
    let power : 16 ^ suc (suc k) ≡ 16 * 16 ^ suc k = grind arith in
    let wide : n < 16 * 16 ^ suc k = rw power at small in
    omega (arith, length_hex_more n large fits, hex_within k (n / 16) (omega arith) (omega arith)))
    (cases_lt n 16)

pub upper_short : (n : ℕ) → n < 2 ^ 20 → length (digits 16 false n) ≤ 5
upper_short n small = hex_within 4 n (omega arith) (omega arith)
