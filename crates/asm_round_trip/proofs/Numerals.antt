-- Printed numbers read back.
use Rattle.std.proofs.Common.{◌≡◌, ℕ, zero, suc, ◌+◌, ◌*◌, ◌/◌, ◌%◌, ◌^◌, ◌<◌, ◌≤◌, true, false, List, [], ◌∷◌, length, get_or, Some, refl, ap, ◌∙◌, arith, nat_lt, ◌==◌, slice_index}
use Rattle.std.proofs.lemmas.Bool.Decides.{nat_tests}
use Rattle.std.proofs.lemmas.Fmt.{digits_is_IsNumeral, decimal_is_IsNumeral, first_decimal, decimal_digit}
use Rattle.std.specs.Fmt.{digits, decimal, digit_glyph}
use Rattle.std.specs.Char.{digit_value}
use Rattle.std.specs.List.{list_all}
use Rattle.std.specs.Str.Parse.{IsNumeral, AllDigits, digits_value, digits_value_after}
use Rattle.asm_lex.specs.Bytes.{is_digit, is_name_byte}
use Rattle.asm_lex.specs.Numbers as lexer
use Rattle.asm_lex.specs.Numbers.{value_of_digits, number_in, digits_number}
use Rattle.asm_round_trip.proofs.Atoms.{IsNumber, is_word}
use Rattle.asm_round_trip.proofs.Digits.{hex8, hex2, hexadecimal, digit_at, IsReadBack}
use Rattle.isa_names.specs.Digits.{word_text, byte_text}

digit_same : (c : ℕ) → digit_value c < 16 → lexer.digit_value c ≡ digit_value c
digit_same c lt = grind (arith, nat_tests)

digit_name : (c : ℕ) → digit_value c < 16 → is_name_byte c ≡ true
digit_name c lt = grind (arith, nat_tests)

is_below : (a b : ℕ) → a < b → nat_lt a b ≡ true
is_below a b lt = grind (arith, nat_tests)

all_pass : (base : ℕ) (ds : List ℕ) → base ≤ 16 → AllDigits base ds → list_all (λ b. nat_lt (lexer.digit_value b) base) ds ≡ true
all_pass base [] le h = refl
all_pass base (c ∷ cs) le h = let e : lexer.digit_value c ≡ digit_value c = digit_same c (omega (arith, h.0)) in rw (e, is_below (digit_value c) base h.0) (all_pass base cs le h.1)

all_names : (base : ℕ) (ds : List ℕ) → base ≤ 16 → AllDigits base ds → is_word ds ≡ true
all_names base [] le h = refl
all_names base (c ∷ cs) le h = rw (digit_name c (omega (arith, h.0))) (all_names base cs le h.1)

same_value : (base n : ℕ) (ds : List ℕ) → base ≤ 16 → AllDigits base ds → value_of_digits base n ds ≡ digits_value_after base n ds
same_value base n [] le h = refl
same_value base n (c ∷ cs) le h = let e : lexer.digit_value c ≡ digit_value c = digit_same c (omega (arith, h.0)) in rw e (same_value base (n * base + digit_value c) cs le h.1)

numeral_in : (base n : ℕ) (ds : List ℕ) → base ≤ 16 → IsNumeral base ds → digits_value base ds ≡ n → n < 2 ^ 32 → number_in base ds ≡ Some n
unfolding number_in
numeral_in base n ds le h e lt =
    let v : value_of_digits base 0 ds ≡ n = same_value base 0 ds le h.1 ∙ e in
    rw (is_below 0 (length ds) h.0, all_pass base ds le h.1, v, is_below n 4294967296 lt) refl

no_zero : (n a b : ℕ) (ds : List ℕ) → (0 < n → 48 < a) → (n ≡ 0 → (a ∷ b ∷ ds) ≡ 48 ∷ []) → (a == 48) ≡ false
no_zero zero a b ds first alone = let e : suc (suc (length ds)) ≡ 1 = ap length (alone refl) in absurd (omega (arith, e))
no_zero (suc n) a b ds first alone = let lt : 48 < a = first (omega arith) in grind (arith, nat_tests)

decimal_read : (n : ℕ) (ds : List ℕ) → IsNumeral 10 ds → digits_value 10 ds ≡ n → n < 2 ^ 32 → (0 < n → 48 < get_or ds 0 0) → (n ≡ 0 → ds ≡ 48 ∷ []) → digits_number ds ≡ Some n
unfolding digits_number
decimal_read n [] h e lt first alone = numeral_in 10 n [] (omega arith) h e lt
decimal_read n (a ∷ []) h e lt first alone = numeral_in 10 n (a ∷ []) (omega arith) h e lt
decimal_read n (a ∷ b ∷ ds) h e lt first alone = rw (no_zero n a b ds first alone) (numeral_in 10 n (a ∷ b ∷ ds) (omega arith) h e lt)

first_digit : (base : ℕ) (ds : List ℕ) → base ≤ 10 → IsNumeral base ds → is_digit (slice_index ds 0) ≡ true
first_digit base [] le h = absurd (omega arith)
first_digit base (c ∷ cs) le h = let lt : digit_value c < 10 = omega (arith, h.1.0) in grind (arith, nat_tests)

pub decimal_number : (n : ℕ) → n < 2 ^ 32 → IsNumber n (decimal n)
decimal_number n lt =
    let h = decimal_is_IsNumeral n (omega arith) in
    record {
      some = h.0.0;
      bytes = all_names 10 (decimal n) (omega arith) h.0.1;
      digit = first_digit 10 (decimal n) (omega arith) h.0;
      value = decimal_read n (decimal n) h.0 h.1 lt (λ pos. first_decimal n pos (omega arith)) (λ e. rw e (decimal_digit 0 (omega arith)));
    }

hex_number_of : (n : ℕ) (ds : List ℕ) → IsNumeral 16 ds → digits_value 16 ds ≡ n → n < 2 ^ 32 → IsNumber n (hexadecimal ds)
unfolding digits_number
hex_number_of n ds h e lt = record {
  some = omega arith;
  bytes = all_names 16 ds (omega arith) h.1;
  digit = refl;
  value = numeral_in 16 n ds (omega arith) h e lt;
}

pub hex_number : (n : ℕ) → n < 2 ^ 32 → IsNumber n (hexadecimal (digits 16 false n))
hex_number n lt =
    let h = digits_is_IsNumeral 16 false (omega arith) (omega arith) n (omega arith) in
    hex_number_of n (digits 16 false n) h.0 h.1 lt

glyph_value : (d : ℕ) → d < 16 → digit_value (digit_glyph false d) ≡ d
glyph_value d lt = grind (arith, nat_tests)

place_value : (n k : ℕ) → digit_value (digit_at n k) ≡ n / 16 ^ k % 16
place_value n k = glyph_value (n / 16 ^ k % 16) (omega arith)

place_below : (n k : ℕ) → digit_value (digit_at n k) < 16
place_below n k = rw (place_value n k) (omega arith)

hex8_digits : (n : ℕ) → AllDigits 16 (hex8 n)
unfolding hex8
hex8_digits n = (place_below n 7, (place_below n 6, (place_below n 5, (place_below n 4, (place_below n 3, (place_below n 2, (place_below n 1, (place_below n 0, tt))))))))

hex8_value : (n : ℕ) → n < 2 ^ 32 → digits_value 16 (hex8 n) ≡ n
unfolding hex8
hex8_value n lt = rw (place_value n 7, place_value n 6, place_value n 5, place_value n 4, place_value n 3, place_value n 2, place_value n 1, place_value n 0) (omega arith)

hex8_some : (n : ℕ) → 0 < length (hex8 n)
unfolding hex8
hex8_some n = omega arith

hex2_number_value : (n : ℕ) → n < 256 → digits_value 16 (hex2 n) ≡ n
unfolding hex2
hex2_number_value n lt = rw (place_value n 1, place_value n 0) (omega arith)

hex2_numeral : (n : ℕ) → IsNumeral 16 (hex2 n)
unfolding hex2
hex2_numeral n = (omega arith, (place_below n 1, (place_below n 0, tt)))

pub hex2_number : (n : ℕ) → n < 256 → IsNumber n (hexadecimal (hex2 n))
hex2_number n lt = hex_number_of n (hex2 n) (hex2_numeral n) (hex2_number_value n lt) (omega arith)

pub hex8_number : (n : ℕ) → n < 2 ^ 32 → IsNumber n (hexadecimal (hex8 n))
hex8_number n lt = hex_number_of n (hex8 n) (hex8_some n, hex8_digits n) (hex8_value n lt) lt

-- eight digits, place by place
pub word_text_is : (n : ℕ) → word_text n ≡ hex8 n
unfolding hex8 word_text
word_text_is n =
    let e0 : n / 16 ^ 0 % 16 ≡ n % 16 = omega arith in
    let e1 : n / 16 ^ 1 % 16 ≡ n / 16 % 16 = omega arith in
    let e2 : n / 16 ^ 2 % 16 ≡ n / 16 / 16 % 16 = omega arith in
    let e3 : n / 16 ^ 3 % 16 ≡ n / 16 / 16 / 16 % 16 = omega arith in
    let e4 : n / 16 ^ 4 % 16 ≡ n / 16 / 16 / 16 / 16 % 16 = omega arith in
    let e5 : n / 16 ^ 5 % 16 ≡ n / 16 / 16 / 16 / 16 / 16 % 16 = omega arith in
    let e6 : n / 16 ^ 6 % 16 ≡ n / 16 / 16 / 16 / 16 / 16 / 16 % 16 = omega arith in
    let e7 : n / 16 ^ 7 % 16 ≡ n / 16 / 16 / 16 / 16 / 16 / 16 / 16 % 16 = omega arith in
    rw (e7, e6, e5, e4, e3, e2, e1, e0) refl

-- two digits, place by place
pub byte_text_is : (n : ℕ) → byte_text n ≡ hex2 n
unfolding hex2 byte_text
byte_text_is n =
    let e0 : n / 16 ^ 0 % 16 ≡ n % 16 = omega arith in
    let e1 : n / 16 ^ 1 % 16 ≡ n / 16 % 16 = omega arith in
    rw (e1, e0) refl

-- all forms
pub is_read_back : (n : ℕ) → n < 2 ^ 32 → IsReadBack n
is_read_back n lt = record {
  in_decimal = decimal_number n lt;
  in_hexadecimal = hex_number n lt;
  as_word = rw (word_text_is n) (hex8_number n lt);
  as_byte = λ small. rw (byte_text_is n) (hex2_number n small);
}
