-- What is printed spells its list.
use Rattle.std.proofs.Common.{◌≡◌, ℕ, ◌^◌, ◌<◌, ◌≤◌, true, List, [], ◌∷◌, ◌++◌, length, get_or, refl, arith, ap, ⊎_elim}
use Rattle.std.proofs.lemmas.Bool.{cases_lt}
use Rattle.std.proofs.lemmas.List.Elements.{All-head, All-tail}
use Rattle.std.proofs.lemmas.Fmt.{decimal_is_IsNumeral, decimal_digit, first_decimal}
use Rattle.std.specs.Fmt.{decimal}
use Rattle.std.specs.List.{All}
use Rattle.text_items.specs.Numbers.{IsNumber}
use Rattle.text_items.specs.Spelling.{Spells, is_end}
use Rattle.text_items.specs.Printing.{after_item, text_of}

-- a number in decimal begins with 0 only if it is 0
no_leading_zero : (n : ℕ) → n < 2 ^ 64 → get_or (decimal n) 0 0 ≡ 48 → length (decimal n) ≡ 1
no_leading_zero n small e = ⊎_elim some none (cases_lt 0 n)
  where
    some : 0 < n → length (decimal n) ≡ 1
    some lt = absurd (omega (arith, e, first_decimal n lt small))

    none : n ≤ 0 → length (decimal n) ≡ 1
    none le = ap length (decimal_digit n (omega arith))

pub decimal_is_number : (n : ℕ) → n < 2 ^ 64 → IsNumber (decimal n)
decimal_is_number n small = record {
  numeral = (decimal_is_IsNumeral n small).0;
  no_leading_zero = no_leading_zero n small;
}

module _ {A : Type 0} (Names : List ℕ → A → Type 0) (There Fits : A → Type 0) (item_text : A → List ℕ)
    (names : (value : A) → Fits value → Names (item_text value) value) where
  end_before : (values : List A) → is_end (after_item item_text values) ≡ true
  end_before [] = refl
  end_before (value ∷ values) = refl

  item_spells : (value : A) (values : List A) → All There (value ∷ values) → All Fits (value ∷ values)
      → Spells Names There (after_item item_text values) values
      → Spells Names There (item_text value ++ after_item item_text values) (value ∷ values)
  item_spells value values there fits later =
      Spells.item (item_text value) (after_item item_text values) value values
      (names value (All-head Fits value values fits)) (All-head There value values there) (end_before values) later

  rest_spells : (values : List A) → All There values → All Fits values → Spells Names There (after_item item_text values) values
  rest_spells [] there fits = Spells.blank 10 [] [] refl Spells.nothing
  rest_spells (value ∷ values) there fits =
      Spells.blank 32 (item_text value ++ after_item item_text values) (value ∷ values) refl
      (item_spells value values there fits (rest_spells values (All-tail There value values there) (All-tail Fits value values fits)))

  -- what is printed spells its list
  pub text_spells : (values : List A) → All There values → All Fits values → Spells Names There (text_of item_text values) values
  text_spells [] there fits = Spells.nothing
  text_spells (value ∷ values) there fits =
      item_spells value values there fits (rest_spells values (All-tail There value values there) (All-tail Fits value values fits))
