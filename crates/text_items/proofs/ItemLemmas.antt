-- How the items of a text go on from its front.
use Rattle.std.proofs.Common.{suc, not, get_or, ⊎_elim, ◌≡◌, ℕ, ◌+◌, ◌-◌, ◌<◌, ◌≤◌, Bool, true, false, cond, List, [], ◌∷◌, ◌++◌, length, take, drop, refl, arith, rules, ap, sym, ◌∙◌, append-nil, drop-drop}
use Rattle.std.proofs.lemmas.Grind.{common_steps}
use Rattle.std.proofs.lemmas.Bool.{cases_lt}
use Rattle.std.proofs.lemmas.List.Sums.{prefix_len_passes, prefix_len_stops, prefix_len-le-length}
use Rattle.std.proofs.lemmas.List.{drop_more}
use Rattle.std.proofs.lemmas.List.Splits.{slice_split_at, slice_split_first, slice_split_none, slice_split-cons_yes}
use Rattle.std.specs.List.{All, slice_split, position_or_len, prefix_len, onto_first}
use Rattle.text_items.specs.Items.{is_blank, items_of_parts, items_from, text_between}
use Rattle.text_items.specs.Spelling.{is_end}

no_blank : (b : Bool) → not b ≡ true → b ≡ false
no_blank true h = sym h
no_blank false h = refl

pub parts_at_blank : (xs : List ℕ) → position_or_len is_blank xs < length xs
    → slice_split is_blank xs ≡ take (position_or_len is_blank xs) xs ∷ slice_split is_blank (drop (position_or_len is_blank xs + 1) xs)
parts_at_blank xs lt = slice_split_first is_blank xs 0 lt

-- a text without blanks is a single part
pub parts_of_one : (xs : List ℕ) → position_or_len is_blank xs ≡ length xs → slice_split is_blank xs ≡ take (position_or_len is_blank xs) xs ∷ []
parts_of_one xs e =
    let plain : (k d : ℕ) → k < length xs → is_blank (get_or xs k d) ≡ false
    = λ k d lt. no_blank (is_blank (get_or xs k d)) (prefix_len_passes (λ b. not (is_blank b)) xs k d (omega (arith, e))) in
    let whole : take (position_or_len is_blank xs) xs ≡ xs = search (rules, common_steps, e) in
    slice_split_none is_blank xs plain ∙ ap (λ part. part ∷ []) (sym whole)

-- blanks at the front belong to no item
pub skip_blanks : (at : ℕ) (xs : List ℕ)
    → items_of_parts at (slice_split is_blank xs)
    ≡ items_of_parts (at + prefix_len is_blank xs) (slice_split is_blank (drop (prefix_len is_blank xs) xs))
skip_blanks at [] = refl
skip_blanks at (x ∷ xs) = by (is_blank x) refl (skip_blanks (at + 1) xs)
  where
    by : (b : Bool) → is_blank x ≡ b
        → items_of_parts (at + 1) (slice_split is_blank xs)
        ≡ items_of_parts (at + 1 + prefix_len is_blank xs) (slice_split is_blank (drop (prefix_len is_blank xs) xs))
        → items_of_parts at (cond b ([] ∷ slice_split is_blank xs) (onto_first x (slice_split is_blank xs)))
        ≡ items_of_parts (at + cond b (1 + prefix_len is_blank xs) 0) (slice_split is_blank (drop (cond b (1 + prefix_len is_blank xs) 0) (x ∷ xs)))
    by true h later =
        let p = prefix_len is_blank xs in
        let more : 1 + p ≡ suc p = omega arith in
        let far : at + 1 + p ≡ at + (1 + p) = omega arith in
        later ∙ ap (λ k. items_of_parts k (slice_split is_blank (drop p xs))) far
        ∙ ap (λ k. items_of_parts (at + (1 + p)) (slice_split is_blank (drop k (x ∷ xs)))) (sym more)
    by false h later =
        let parts = slice_split is_blank xs in
        let near : at ≡ at + 0 = omega arith in
        ap (λ b. items_of_parts at (cond b ([] ∷ parts) (onto_first x parts))) (sym h)
        ∙ ap (λ k. items_of_parts k (slice_split is_blank (x ∷ xs))) near

no_not : (b : Bool) → not b ≡ false → b ≡ true
no_not true h = refl
no_not false h = sym h

stops_at_blank : (xs : List ℕ) → position_or_len is_blank xs < length xs → is_blank (get_or xs (position_or_len is_blank xs) 0) ≡ true
stops_at_blank xs lt = no_not _ (prefix_len_stops (λ b. not (is_blank b)) xs 0 lt)

all_before : (xs : List ℕ) → length xs ≤ position_or_len is_blank xs → position_or_len is_blank xs ≡ length xs
all_before xs ge = omega (arith, prefix_len-le-length (λ b. not (is_blank b)) xs)

-- a part that isn't empty is an item
pub part_is_item : (at : ℕ) (part : List ℕ) (parts : List (List ℕ)) → 0 < length part
    → items_of_parts at (part ∷ parts) ≡ record { at = at; text = part } ∷ items_of_parts (at + (length part + 1)) parts
part_is_item at [] parts lt = absurd (omega arith)
part_is_item at (b ∷ bs) parts lt = refl

-- the items of a text with a blank in front
pub items_of_blank : (at b : ℕ) (text : List ℕ) → is_blank b ≡ true
    → items_of_parts at (slice_split is_blank (b ∷ text)) ≡ items_of_parts (at + 1) (slice_split is_blank text)
items_of_blank at b text h = ap (items_of_parts at) (slice_split-cons_yes is_blank b text h)

-- the items of a text with an item in front
pub items_of_item : (at : ℕ) (text rest : List ℕ) → 0 < length text → All (λ b. is_blank b ≡ false) text → is_end rest ≡ true
    → items_of_parts at (slice_split is_blank (text ++ rest))
    ≡ record { at = at; text = text } ∷ items_of_parts (at + length text) (slice_split is_blank rest)
items_of_item at text [] some none end =
    ap (λ xs. items_of_parts at (slice_split is_blank xs)) (append-nil text)
    ∙ ap (items_of_parts at) (slice_split_none is_blank text none) ∙ part_is_item at text [] some
items_of_item at text (y ∷ ys) some none end =
    let later = slice_split is_blank ys in
    let far : at + (length text + 1) ≡ at + length text + 1 = omega arith in
    ap (items_of_parts at) (slice_split_at is_blank text y ys none end) ∙ part_is_item at text later some
    ∙ ap (λ k. record { at = at; text = text } ∷ items_of_parts k later) far
    ∙ ap (λ parts. record { at = at; text = text } ∷ items_of_parts (at + length text) parts) (sym (slice_split-cons_yes is_blank y ys end))

-- if no blank is at the front, the bytes before the first blank are the first item
pub first_item : (at : ℕ) (xs : List ℕ) → 0 < position_or_len is_blank xs
    → items_of_parts at (slice_split is_blank xs)
    ≡ record { at = at; text = take (position_or_len is_blank xs) xs }
    ∷ items_of_parts (at + position_or_len is_blank xs) (slice_split is_blank (drop (position_or_len is_blank xs) xs))
first_item at xs some = ⊎_elim before_blank at_end (cases_lt (position_or_len is_blank xs) (length xs))
  where
    before_blank : position_or_len is_blank xs < length xs
        → items_of_parts at (slice_split is_blank xs)
        ≡ record { at = at; text = take (position_or_len is_blank xs) xs }
        ∷ items_of_parts (at + position_or_len is_blank xs) (slice_split is_blank (drop (position_or_len is_blank xs) xs))
    before_blank lt =
        let m = position_or_len is_blank xs in
        let len : length (take m xs) ≡ m = search (rules, common_steps) in
        let rest = slice_split is_blank (drop (m + 1) xs) in
        let far : at + (length (take m xs) + 1) ≡ at + m + 1 = omega (arith, len) in
        let here : drop m xs ≡ get_or xs m 0 ∷ drop (m + 1) xs = drop_more xs m 0 lt in
        let stops : is_blank (get_or xs m 0) ≡ true = stops_at_blank xs lt in
        let after : slice_split is_blank (drop m xs) ≡ [] ∷ rest
        = ap (slice_split is_blank) here ∙ slice_split-cons_yes is_blank (get_or xs m 0) (drop (m + 1) xs) stops in
        ap (items_of_parts at) (parts_at_blank xs lt)
        ∙ part_is_item at (take m xs) rest (omega (arith, len))
        ∙ ap (λ k. record { at = at; text = take m xs } ∷ items_of_parts k rest) far
        ∙ ap (λ parts. record { at = at; text = take m xs } ∷ items_of_parts (at + m) parts) (sym after)

    at_end : length xs ≤ position_or_len is_blank xs
        → items_of_parts at (slice_split is_blank xs)
        ≡ record { at = at; text = take (position_or_len is_blank xs) xs }
        ∷ items_of_parts (at + position_or_len is_blank xs) (slice_split is_blank (drop (position_or_len is_blank xs) xs))
    at_end ge =
        let m = position_or_len is_blank xs in
        let whole : m ≡ length xs = all_before xs ge in
        let len : length (take m xs) ≡ m = search (rules, common_steps) in
        let none : drop m xs ≡ [] = search (rules, common_steps) in
        ap (items_of_parts at) (parts_of_one xs whole)
        ∙ part_is_item at (take m xs) [] (omega (arith, len))
        ∙ ap (λ ys. record { at = at; text = take m xs } ∷ items_of_parts (at + m) (slice_split is_blank ys)) (sym none)

-- a text that does not begin with a blank has an item at its front
begins_item : (x : ℕ) (xs : List ℕ) → is_blank x ≡ false → 0 < position_or_len is_blank (x ∷ xs)
begins_item x xs plain = by (is_blank x) plain
  where
    by : (b : Bool) → b ≡ false → 0 < cond (not b) (1 + position_or_len is_blank xs) 0
    by true h = absurd (cc)
    by false h = omega arith

-- if no byte is between the blanks at the front and the next blank, the text has ended
ended : (xs : List ℕ) → position_or_len is_blank (drop (prefix_len is_blank xs) xs) ≡ 0 → drop (prefix_len is_blank xs) xs ≡ []
ended xs none = ⊎_elim goes_on stops (cases_lt (prefix_len is_blank xs) (length xs))
  where
    goes_on : prefix_len is_blank xs < length xs → drop (prefix_len is_blank xs) xs ≡ []
    goes_on lt =
        let p = prefix_len is_blank xs in
        let here : drop p xs ≡ get_or xs p 0 ∷ drop (p + 1) xs = drop_more xs p 0 lt in
        let some : 0 < position_or_len is_blank (get_or xs p 0 ∷ drop (p + 1) xs)
        = begins_item (get_or xs p 0) (drop (p + 1) xs) (prefix_len_stops is_blank xs 0 lt) in
        absurd (omega (arith, some, ap (position_or_len is_blank) here))

    stops : length xs ≤ prefix_len is_blank xs → drop (prefix_len is_blank xs) xs ≡ []
    stops ge = search (rules, common_steps)

module _ (from : ℕ) (text : List ℕ) (p q : ℕ) (blanks : p ≡ prefix_len is_blank (drop from text)) (bytes : q ≡ position_or_len is_blank (drop (from + p) text)) where
  -- the text from the first byte on that is no blank
  after_blanks : drop (from + p) text ≡ drop (prefix_len is_blank (drop from text)) (drop from text)
  after_blanks = sym (drop-drop p from text) ∙ ap (λ k. drop k (drop from text)) blanks

  skipped : items_from from text ≡ items_from (from + p) text
  skipped =
      skip_blanks from (drop from text) ∙ ap (λ k. items_of_parts (from + k) (slice_split is_blank (drop (prefix_len is_blank (drop from text)) (drop from text)))) (sym blanks)
      ∙ ap (λ xs. items_of_parts (from + p) (slice_split is_blank xs)) (sym after_blanks)

  pub no_item : q ≡ 0 → items_from from text ≡ []
  no_item none =
      let end : drop (from + p) text ≡ []
      = after_blanks ∙ ended (drop from text) (ap (position_or_len is_blank) (sym after_blanks) ∙ sym bytes ∙ none) in
      skipped ∙ ap (λ xs. items_of_parts (from + p) (slice_split is_blank xs)) end

  pub first_from : 0 < q → items_from from text ≡ record { at = from + p; text = text_between (from + p) (from + p + q) text } ∷ items_from (from + p + q) text
  first_from some =
      let rest = drop (from + p) text in
      let wide : from + p + q - (from + p) ≡ q = omega arith in
      let first = first_item (from + p) rest (omega (arith, bytes)) in
      skipped ∙ first
      ∙ ap (λ k. record { at = from + p; text = take k rest } ∷ items_of_parts (from + p + k) (slice_split is_blank (drop k rest))) (sym bytes)
      ∙ ap (λ xs. record { at = from + p; text = take q rest } ∷ items_of_parts (from + p + q) (slice_split is_blank xs)) (drop-drop q (from + p) text)
      ∙ ap (λ k. record { at = from + p; text = take k rest } ∷ items_from (from + p + q) text) (sym wide)
