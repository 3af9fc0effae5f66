-- What the tests of an item's digits and of its mark mean.
use Rattle.std.proofs.Common.{◌≡◌, ℕ, ◌-◌, ◌^◌, ◌<◌, min, Bool, true, false, not, ◌&&◌, ◌||◌, List, [], ◌∷◌, ◌++◌, length, take, get_or, Option, Some, None, refl, arith, rules, ap, sym, ◌∙◌, append-nil, eqb-true, eq-eqb, ne_eqb, ltb-true, lt-ltb, length-append}
use Rattle.std.proofs.lemmas.Grind.{common_steps}
use Rattle.std.specs.Prelude.{◌==◌, nat_lt, slice_index, if◌then◌else◌}
use Rattle.std.specs.List.{All}
use Rattle.std.proofs.lemmas.List.Elements.{All-nil, All-cons}
use Rattle.std.specs.Int.{IsInRange}
use Rattle.std.specs.Str.{all_ascii_digits}
use Rattle.std.specs.Str.Parse.{AllDigits, digits_value}
use Rattle.std.proofs.lemmas.Str.Parse.{IsNumeralModel, numerals_by_fold, numerals_by_value, tells_all_ascii_digits, tells_by_index, digit_from_value}
use Rattle.text_items.specs.Items.{is_blank}
use Rattle.text_items.specs.Numbers.{IsNumber, mark_of, value_after, is_number, number_of, has_mark, before_mark, unmarked}

numerals : IsNumeralModel (λ ds. all_ascii_digits ds ≡ true) (value_after 0)
numerals = numerals_by_fold _ tells_all_ascii_digits value_after (search rules)

both : (a b : Bool) → a && b ≡ true → (a ≡ true) × (b ≡ true)
both true b h = (refl, h)
both false b h = absurd (cc)

-- the test of a leading zero is exact
no_zero : (a b : Bool) → not a || b ≡ true → a ≡ true → b ≡ true
no_zero true b h e = h
no_zero false b h e = absurd (cc)

zero_told : (a b : Bool) → (a ≡ true → b ≡ true) → not a || b ≡ true
zero_told true b h = h refl
zero_told false b h = refl

-- digits that pass the test are a number
pub is_number-true : (digits : List ℕ) → is_number digits ≡ true → IsNumber digits
is_number-true digits h =
    let outer = both (all_ascii_digits digits) _ h in
    let inner = both (nat_lt 0 (length digits)) _ outer.1 in
    record {
      numeral = (ltb-true 0 (length digits) inner.0, numerals.to digits outer.0);
      no_leading_zero = λ zero. eqb-true _ _ (no_zero (slice_index digits 0 == 48) (length digits == 1) inner.1 (eq-eqb _ _ zero));
    }

-- a number passes the test
pub number_is : (digits : List ℕ) → IsNumber digits → is_number digits ≡ true
number_is digits h =
    let ascii : all_ascii_digits digits ≡ true = numerals.from digits h.numeral.1 in
    let some : nat_lt 0 (length digits) ≡ true = lt-ltb 0 (length digits) h.numeral.0 in
    let no_lead : not (slice_index digits 0 == 48) || length digits == 1 ≡ true
    = zero_told (slice_index digits 0 == 48) (length digits == 1) (λ zero. eq-eqb _ _ (h.no_leading_zero (eqb-true _ _ zero))) in
    rw (ascii, some, no_lead) refl

-- the value that is read is the numeral's
pub value_is : (digits : List ℕ) → IsNumber digits → value_after 0 digits ≡ digits_value 10 digits
value_is digits h = numerals.same digits h.numeral.1

-- what the number that is read says of the digits
abbrev pub NumberTold : List ℕ → Option ℕ → Type 0
NumberTold digits None = IsNumber digits → ⊥
NumberTold digits (Some n) = IsNumber digits × (n ≡ min (2 ^ 32) (digits_value 10 digits))

pub number_told : (digits : List ℕ) → NumberTold digits (number_of digits)
number_told digits = by (is_number digits) refl
  where
    by : (b : Bool) → is_number digits ≡ b → NumberTold digits (if b then Some (min (2 ^ 32) (value_after 0 digits)) else None)
    by true h = let number = is_number-true digits h in (number, ap (min (2 ^ 32)) (value_is digits number))
    by false h = λ number. absurd (let e = number_is digits number in cc)

-- each byte of a number is a digit
pub digit_at : (digits : List ℕ) → IsNumber digits → (i : ℕ) → i < length digits → IsInRange 48 57 (get_or digits i 0)
digit_at digits h = (numerals_by_value _ tells_by_index).from digits h.numeral.1

-- an item with the mark is one whose last byte is `!`
pub has_mark-marked : (digits : List ℕ) → has_mark (digits ++ 33 ∷ []) ≡ true
has_mark-marked digits =
    let len : length (digits ++ 33 ∷ []) - 1 ≡ length digits = simp length-append (omega arith) in
    let last : get_or (digits ++ 33 ∷ []) (length digits) 0 ≡ 33 = search (rules, common_steps) in
    eq-eqb _ 33 (ap (λ k. get_or (digits ++ 33 ∷ []) k 0) len ∙ last)

pub before_mark-marked : (digits : List ℕ) → before_mark (digits ++ 33 ∷ []) ≡ digits
before_mark-marked digits =
    let len : length (digits ++ 33 ∷ []) - 1 ≡ length digits = simp length-append (omega arith) in
    let front : take (length digits) (digits ++ 33 ∷ []) ≡ digits = search (rules, common_steps) in
    ap (λ k. take k (digits ++ 33 ∷ [])) len ∙ front

pub has_mark-number : (digits : List ℕ) → IsNumber digits → has_mark digits ≡ false
has_mark-number digits h =
    let digit = digit_at digits h (length digits - 1) (let some = h.numeral.0 in omega arith) in
    ne_eqb _ 33 (λ e. omega (arith, digit, e))

ends_so : (item : List ℕ) → get_or item (length item - 1) 0 ≡ 33 → item ≡ take (length item - 1) item ++ 33 ∷ []
ends_so [] e = absurd (cc)
ends_so (x ∷ xs) e = grind (arith, common_steps)

-- an item whose last byte is `!` is the bytes before it, and it
pub marked : (item : List ℕ) → has_mark item ≡ true → item ≡ before_mark item ++ 33 ∷ []
marked item h =
    let last : get_or item (length item - 1) 0 ≡ 33 = eqb-true _ 33 h in
    ends_so item last

-- an item is the bytes before its mark, and the mark
pub item_is : (item : List ℕ) → item ≡ unmarked item ++ mark_of (has_mark item)
item_is item = by (has_mark item) refl
  where
    by : (b : Bool) → has_mark item ≡ b → item ≡ (if b then before_mark item else item) ++ mark_of b
    by true h = marked item h
    by false h = sym (append-nil item)

abbrev plain : ℕ → Type 0
plain b = is_blank b ≡ false

-- a digit is no blank
digit_plain : (c : ℕ) → IsInRange 48 57 c → is_blank c ≡ false
digit_plain c h = rw (ne_eqb c 32 (λ e. omega arith), ne_eqb c 9 (λ e. omega arith), ne_eqb c 10 (λ e. omega arith), ne_eqb c 13 (λ e. omega arith)) refl

pub digits_plain : (digits : List ℕ) → AllDigits 10 digits → All (λ b. is_blank b ≡ false) digits
digits_plain [] h = All-nil plain
digits_plain (c ∷ cs) h = All-cons plain c cs (digit_plain c (digit_from_value c h.0)) (digits_plain cs h.1)

pub mark_plain : (refuse : Bool) → All (λ b. is_blank b ≡ false) (mark_of refuse)
mark_plain true = All-cons plain 33 [] refl (All-nil plain)
mark_plain false = All-nil plain

-- a number below the cap is read as it is
pub number_read : (digits : List ℕ) (n : ℕ) → IsNumber digits → digits_value 10 digits ≡ n → n < 2 ^ 32 → number_of digits ≡ Some n
number_read digits n number value small =
    let exact : min (2 ^ 32) (value_after 0 digits) ≡ n = omega (arith, value_is digits number) in
    ap (λ b. if b then Some (min (2 ^ 32) (value_after 0 digits)) else None) (number_is digits number) ∙ ap Some exact
