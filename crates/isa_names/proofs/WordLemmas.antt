use Rattle.std.proofs.Common.{◌≡◌, ℕ, zero, suc, ◌+◌, ◌-◌, ◌*◌, ◌/◌, ◌%◌, ◌^◌, ◌<◌, ◌≤◌, false, List, [], ◌∷◌, ◌++◌, length, replicate, drop, slice_set, refl, arith, rules, ap, sym, subst, ◌∙◌, ⊎_elim}
use Rattle.std.specs.Prelude.{◌==◌}
use Rattle.std.specs.Str.{IsAscii}
use Rattle.std.proofs.lemmas.List.{drop-set}
use Rattle.std.proofs.lemmas.Str.Ascii.{IsAscii-cons, IsAscii-nil}
use Rattle.std.proofs.lemmas.Bool.{cases_lt}
use Rattle.std.proofs.lemmas.Grind.{common_steps}
use Rattle.std.specs.Fmt.{digits, digits_onto, digit_glyph, padded_integral, char_count, format_spec}
use Rattle.isa_names.specs.Digits.{hex_onto, word_text, byte_text}

-- one more of the same, in front or after
more_same : (k x : ℕ) (acc : List ℕ) → replicate k x ++ (x ∷ acc) ≡ x ∷ (replicate k x ++ acc)
more_same zero x acc = refl
more_same (suc k) x acc = ap (λ l. x ∷ l) (more_same k x acc)

-- of 0 the digits are zeros
zeros : (k : ℕ) (acc : List ℕ) → hex_onto k 0 acc ≡ replicate k 48 ++ acc
zeros zero acc = refl
zeros (suc k) acc = zeros k (48 ∷ acc) ∙ more_same k 48 acc

last_digit : (i n : ℕ) (acc : List ℕ) → n < 16 → digits_onto (suc i) 16 false n acc ≡ digit_glyph false (n % 16) ∷ acc
last_digit i n acc lt = let q : n / 16 ≡ 0 = omega arith in rw q refl

more_digits : (i n : ℕ) (acc : List ℕ) → 16 ≤ n → digits_onto (suc i) 16 false n acc ≡ digits_onto i 16 false (n / 16) (digit_glyph false (n % 16) ∷ acc)
more_digits i n acc le = let q : 0 < n / 16 = omega arith in let z : (n / 16 == 0) ≡ false = search (rules, common_steps) in rw z refl

power : (k : ℕ) → 16 ^ suc k ≡ 16 * 16 ^ k
power k = grind arith

above : (k n : ℕ) → 16 ≤ n → n < 16 ^ suc k → 0 < k
above zero n more lt = absurd (omega arith)
above (suc k) n more lt = omega arith

pads : (k i n : ℕ) (acc : List ℕ) → 0 < k → k ≤ i → n < 16 ^ k
    → hex_onto k n acc ≡ replicate (length acc + k - length (digits_onto i 16 false n acc)) 48 ++ digits_onto i 16 false n acc
pads zero i n acc pos le lt = absurd (omega arith)
pads (suc k) zero n acc pos le lt = absurd (omega arith)
pads (suc k) (suc i) n acc pos le lt = ⊎_elim
    (λ one.
    let q : n / 16 ≡ 0 = omega arith in
    let g = digit_glyph false (n % 16) in
    let count : length acc + suc k - length (g ∷ acc) ≡ k = omega arith in
    ap (λ m. hex_onto k m (g ∷ acc)) q ∙ zeros k (g ∷ acc)
    ∙ ap (λ c. replicate c 48 ++ (g ∷ acc)) (sym count)
    ∙ ap (λ ds. replicate (length acc + suc k - length ds) 48 ++ ds) (sym (last_digit i n acc one)))
    (λ more.
    let g = digit_glyph false (n % 16) in
    let wide : n < 16 * 16 ^ k = subst (λ m. n < m) (power k) lt in
    let some : 0 < k = above k n more lt in
    let count : length (g ∷ acc) + k ≡ length acc + suc k = omega arith in
    pads k i (n / 16) (g ∷ acc) some (omega arith) (omega arith)
    ∙ ap (λ c. replicate (c - length (digits_onto i 16 false (n / 16) (g ∷ acc))) 48 ++ digits_onto i 16 false (n / 16) (g ∷ acc)) count
    ∙ ap (λ ds. replicate (length acc + suc k - length ds) 48 ++ ds) (sym (more_digits i n acc more)))
    (cases_lt n 16)

-- at least this many digits, as a hole with a width gives them
padded_form : (width : ℕ) (ds : List ℕ) → padded_integral (format_spec 32 0 4 width (2 ^ 64 - 1)) false [] ds ≡ replicate (width - length ds) 48 ++ ds
unfolding padded_integral char_count
padded_form width ds = search (rules, common_steps)

digits_are : (n : ℕ) → digits 16 false n ≡ digits_onto 64 16 false n []
unfolding digits
digits_are n = refl

pub padded_byte : (n : ℕ) → n < 2 ^ 8 → padded_integral (format_spec 32 0 4 2 (2 ^ 64 - 1)) false [] (digits 16 false n) ≡ byte_text n
unfolding byte_text
padded_byte n small =
    padded_form 2 (digits 16 false n) ∙ ap (λ ds. replicate (2 - length ds) 48 ++ ds) (digits_are n)
    ∙ sym (pads 2 64 n [] (omega arith) (omega arith) small)

-- the digit before a place, in front of the digits from there on
pub digit_step : (all : List ℕ) (place n : ℕ) → 0 < place → place ≤ length all
    → hex_onto (place - 1) (n / 16) (drop (place - 1) (slice_set all (place - 1) (digit_glyph false (n % 16)))) ≡ hex_onto place n (drop place all)
digit_step all zero n some within = absurd (omega arith)
digit_step all (suc place) n some within =
    let digit = digit_glyph false (n % 16) in
    let before : suc place - 1 ≡ place = omega arith in
    let behind : place + 1 ≡ suc place = omega arith in
    ap (λ p. hex_onto p (n / 16) (drop p (slice_set all p digit))) before
    ∙ ap (hex_onto place (n / 16)) (drop-set all place digit (omega arith) ∙ ap (λ p. digit ∷ drop p all) behind)

glyph_small : (d : ℕ) → d < 16 → digit_glyph false d < 128
glyph_small d lt = grind (arith, lt)

IsAscii-hex : (k n : ℕ) (text : List ℕ) → IsAscii text → IsAscii (hex_onto k n text)
IsAscii-hex zero n text h = h
IsAscii-hex (suc k) n text h = IsAscii-hex k (n / 16) (digit_glyph false (n % 16) ∷ text) (IsAscii-cons (digit_glyph false (n % 16)) text (glyph_small (n % 16) (omega arith)) h)

pub word_is_ascii : (n : ℕ) → IsAscii (word_text n)
unfolding word_text
word_is_ascii n = IsAscii-hex 8 n [] IsAscii-nil
