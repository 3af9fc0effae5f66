-- Bytes, words and numbers are read back from their digits.
use Rattle.std.proofs.Common.{◌≡◌, ℕ, ◌+◌, ◌*◌, ◌/◌, ◌%◌, ◌^◌, ◌<◌, false, List, [], ◌∷◌, ◌++◌, Some, flat_map, ap, sym, refl, ◌∙◌, append-nil, arith}
use Rattle.std.specs.Int.{to_le_bytes, w32}
use Rattle.std.specs.List.{All}
use Rattle.std.proofs.lemmas.Fmt.{digits_is_IsNumeral}
use Rattle.std.proofs.lemmas.List.Concat.{flat_map-append}
use Rattle.std.proofs.lemmas.List.Elements.{All-nil, All-cons, All-append, All-head, All-tail}
use Rattle.std.proofs.lemmas.Nat.{from_le_bytes-to_le_bytes_4}
use Rattle.gdb_frames.specs.Digits.{hex_digit, hex_value}
use Rattle.gdb_frames.specs.Frames.{two_digits}
use Rattle.gdb_frames.proofs.FrameLemmas.{hex_value-hex_digit}
use Rattle.gdb_requests.specs.Bytes.{byte_of, paired_bytes, two_digit_value}
use Rattle.gdb_requests.specs.Lists.{onto_list}
use Rattle.gdb_requests.specs.Numbers.{hex_number}
use Rattle.gdb_requests.proofs.NumeralLemmas.{number_of_numeral}
use Rattle.gdb_replies.specs.Digits.{bytes_text, number_text, registers_text, low_first_text, words_text}
use Rattle.gdb_replies.specs.Reading.{words_by, words_of_bytes, words_read}

byte_read : (b : ℕ) → b < 256 → byte_of (hex_digit (b / 16)) (hex_digit (b % 16)) ≡ Some b
byte_read b small =
    let high : hex_value (hex_digit (b / 16)) ≡ Some (b / 16) = hex_value-hex_digit (b / 16) (omega arith) in
    let low : hex_value (hex_digit (b % 16)) ≡ Some (b % 16) = hex_value-hex_digit (b % 16) (omega arith) in
    let same : 16 * (b / 16) + b % 16 ≡ b = omega arith in
    ap (λ o. two_digit_value o (hex_value (hex_digit (b % 16)))) high
    ∙ ap (λ o. two_digit_value (Some (b / 16)) o) low ∙ ap (λ n. Some n) same

-- the digits of bytes are read back
pub pairs_read : (bytes : List ℕ) → All (λ b. b < 256) bytes → paired_bytes (bytes_text bytes) ≡ Some bytes
unfolding paired_bytes
pairs_read [] all = refl
pairs_read (b ∷ bytes) all =
    ap (λ o. onto_list o (paired_bytes (bytes_text bytes))) (byte_read b (All-head (λ x. x < 256) b bytes all))
    ∙ ap (λ o. onto_list (Some b) o) (pairs_read bytes (All-tail (λ x. x < 256) b bytes all))

-- the bytes of words
abbrev le_bytes : List ℕ → List ℕ
le_bytes words = flat_map (to_le_bytes w32) words

words_are_bytes : (words : List ℕ) → words_text words ≡ bytes_text (le_bytes words)
words_are_bytes [] = refl
words_are_bytes (w ∷ words) =
    ap (λ t. low_first_text w ++ t) (words_are_bytes words)
    ∙ sym (flat_map-append two_digits (to_le_bytes w32 w) (le_bytes words))

is_byte : (n : ℕ) → n % 256 < 256
is_byte n = omega arith

four_bytes : (w : ℕ) → All (λ b. b < 256) (to_le_bytes w32 w)
four_bytes w =
    let P : ℕ → Type 0 = λ b. b < 256 in
    let b = w / 256 % 256 in
    let c = w / 65536 % 256 in
    let d = w / 16777216 % 256 in
    All-cons P (w % 256) (b ∷ (c ∷ (d ∷ []))) (is_byte w)
    (All-cons P b (c ∷ (d ∷ [])) (is_byte (w / 256))
    (All-cons P c (d ∷ []) (is_byte (w / 65536))
    (All-cons P d [] (is_byte (w / 16777216)) (All-nil P))))

are_bytes : (words : List ℕ) → All (λ b. b < 256) (le_bytes words)
are_bytes [] = All-nil (λ b. b < 256)
are_bytes (w ∷ words) = All-append (λ b. b < 256) (to_le_bytes w32 w) (le_bytes words) (four_bytes w) (are_bytes words)

words_of : (words : List ℕ) → All (λ w. w < 2 ^ 32) words → words_of_bytes (le_bytes words) ≡ Some words
unfolding words_of_bytes
words_of [] all = refl
words_of (w ∷ words) all =
    let small : w < 2 ^ 32 = All-head (λ x. x < 2 ^ 32) w words all in
    ap (λ n. onto_list (Some n) (words_of_bytes (le_bytes words))) (from_le_bytes-to_le_bytes_4 w small)
    ∙ ap (λ o. onto_list (Some w) o) (words_of words (All-tail (λ x. x < 2 ^ 32) w words all))

words_back : (words : List ℕ) → All (λ w. w < 2 ^ 32) words → words_read (words_text words) ≡ Some words
words_back words all =
    ap words_read (words_are_bytes words) ∙ ap words_by (pairs_read (le_bytes words) (are_bytes words)) ∙ words_of words all

-- the digits of registers and of the pc are read back
pub registers_back : (registers : List ℕ) (pc : ℕ) → All (λ r. r < 2 ^ 32) registers → pc < 2 ^ 32
    → words_read (registers_text registers pc) ≡ Some (registers ++ pc ∷ [])
registers_back registers pc all small =
    let P : ℕ → Type 0 = λ w. w < 2 ^ 32 in
    let together : registers_text registers pc ≡ words_text (registers ++ pc ∷ [])
    = ap (λ t. words_text registers ++ t) (sym (append-nil (low_first_text pc))) ∙ sym (flat_map-append low_first_text registers (pc ∷ [])) in
    ap words_read together
    ∙ words_back (registers ++ pc ∷ []) (All-append P registers (pc ∷ []) all (All-cons P pc [] small (All-nil P)))

-- the digits of a number are read back
pub number_back : (n : ℕ) → n < 2 ^ 32 → hex_number (number_text n) ≡ Some n
number_back n small =
    let numeral = digits_is_IsNumeral 16 false (omega arith) (omega arith) n (omega arith) in
    number_of_numeral (number_text n) n (numeral.0, numeral.1, small)
