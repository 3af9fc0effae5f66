-- A number digit by digit.
use Rattle.std.proofs.Common.{◌≡◌, ℕ, ◌+◌, ◌*◌, ◌<◌, ◌≤◌, Bool, true, false, List, [], ◌∷◌, length, get_or, Option, Some, None, refl, sym, arith, inl, inr}
use Rattle.std.specs.Prelude.{◌&&◌, nat_lt, if◌then◌else◌}
use Rattle.std.specs.List.{list_all}
use Rattle.std.proofs.lemmas.Bool.{cases_lt, ne_eqb, lt-ltb, le-ltb}
use Rattle.std.proofs.Math.Nat.{mul-le-mul_left}
use Rattle.asm_lex.specs.Numbers.{digit_value, value_of_digits, number_in, digits_number}

-- the value after the digits so far
abbrev pub scanned : ℕ → ℕ → List ℕ → Option ℕ
scanned base n [] = Some n
scanned base n (b ∷ bs) =
    if nat_lt (digit_value b) base then (if nat_lt (n * base + digit_value b) 4294967296 then scanned base (n * base + digit_value b) bs else None) else None

grows_by : (n base : ℕ) → 0 < base → n ≤ n * base
grows_by n base pos = let h : n * 1 ≤ n * base = mul-le-mul_left n (omega arith) in omega (arith, h)

grows : (base n : ℕ) (bs : List ℕ) → 0 < base → n ≤ value_of_digits base n bs
grows base n [] pos = omega arith
grows base n (b ∷ bs) pos = omega (arith, grows base (n * base + digit_value b) bs pos, grows_by n base pos)

none_of : (t : Bool) (v : ℕ) → (if t && false then Some v else None) ≡ None
none_of true v = refl
none_of false v = refl

pub scanned_is : (base n : ℕ) (bs : List ℕ) → n < 4294967296
    → scanned base n bs ≡ (if list_all (λ b. nat_lt (digit_value b) base) bs && nat_lt (value_of_digits base n bs) 4294967296 then Some (value_of_digits base n bs) else None)
scanned_is base n [] lt = rw (lt-ltb n 4294967296 lt) refl
scanned_is base n (b ∷ bs) lt =
    elim (cases_lt (digit_value b) base) [
      | inl small ↦ elim (cases_lt (n * base + digit_value b) 4294967296) [
        | inl fits ↦ rw (lt-ltb _ _ small, lt-ltb _ _ fits) (scanned_is base (n * base + digit_value b) bs fits)
        | inr over ↦ rw (lt-ltb _ _ small, le-ltb _ _ over, le-ltb (value_of_digits base (n * base + digit_value b) bs) 4294967296 (omega (arith, grows base (n * base + digit_value b) bs (omega arith)))) (sym (none_of (list_all (λ b. nat_lt (digit_value b) base) bs) (value_of_digits base (n * base + digit_value b) bs)))
      ]
      | inr big ↦ rw (le-ltb _ _ big) refl
    ]

pub number_is : (base : ℕ) (digits : List ℕ) → 0 < length digits → number_in base digits ≡ scanned base 0 digits
unfolding number_in
number_is base digits pos = rw (lt-ltb 0 (length digits) pos) (sym (scanned_is base 0 digits (omega arith)))

pub number_empty : (base : ℕ) (digits : List ℕ) → length digits ≡ 0 → number_in base digits ≡ None
unfolding number_in
number_empty base digits h = rw h refl

pub number_short : (word : List ℕ) → length word < 2 → digits_number word ≡ number_in 10 word
unfolding digits_number
number_short [] lt = refl
number_short (a ∷ []) lt = refl
number_short (a ∷ b ∷ digits) lt = absurd (omega arith)

pub number_plain : (word : List ℕ) → (get_or word 0 0 ≡ 48 → ⊥) → digits_number word ≡ number_in 10 word
unfolding digits_number
number_plain [] ne = refl
number_plain (a ∷ []) ne = refl
number_plain (a ∷ b ∷ digits) ne = rw (ne_eqb a 48 ne) refl
