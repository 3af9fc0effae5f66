-- What is left of a choice text, one item less, and the items that are one digit or two.
use Rattle.std.proofs.Common.{◌≡◌, ℕ, ◌+◌, ◌*◌, ◌<◌, ◌^◌, ◌==◌, true, false, List, [], ◌∷◌, length, drop, get_or, Some, None, Ok, Err, refl, arith, ap, sym, ◌∙◌, ne_eqb}
use Rattle.std.specs.declared.result.Result.{Result}
use Rattle.std.specs.List.{slice_split, onto_first}
use Rattle.std.proofs.lemmas.List.{drop_more}
use Rattle.std.proofs.lemmas.List.Splits.{slice_split-cons_yes, slice_split-cons_no}
use Rattle.text_items.specs.Items.{is_blank, items_of_parts, items_from, text_between, IsFirstItem}
use Rattle.sched_text.specs.declared.run.Run.{Run}
use Rattle.sched_text.specs.declared.choice_text.ChoiceFault.{ChoiceFault}
use Rattle.sched_text.specs.Runs.{choice_run}
use Rattle.sched_text.specs.Reading.{run_of}
use Rattle.std.specs.Char.{digit_value}
use Rattle.std.proofs.lemmas.Str.{digit_value_digit}
use Rattle.sched_text.specs.Grammar.{NamesRun}
use Rattle.sched_text.proofs.ItemLemmas.{digit_run, run_named}
use Rattle.sched_run.specs.declared.reading.Reading.{Reading}
use Rattle.sched_run.specs.Left.{plain, none_left, item_then, left_of_items, left_after, left_of}

-- ---- one item less
-- the first item from an offset on is read, and those after it
pub first_read : (harts from begin end behind : ℕ) (text : List ℕ) (r : Result Run ChoiceFault) → IsFirstItem from text begin end
    → run_of harts begin (text_between begin end text) ≡ r → items_from end text ≡ items_from behind text
    → left_after harts text from ≡ item_then r (left_after harts text behind)
first_read harts from begin end behind text r first read same =
    ap (left_of_items harts) first.first
    ∙ ap (λ r. item_then r (left_after harts text end)) read
    ∙ ap (λ items. item_then r (left_of_items harts items)) same

-- nothing is left, or a bad item
pub nothing_left : (harts : ℕ) (text : List ℕ) (r : Reading) → items_from r.from text ≡ [] → left_of harts text r ≡ none_left None
nothing_left harts text r end = ap (left_of_items harts) end

pub fault_left : (harts begin end : ℕ) (text : List ℕ) (r : Reading) (fault : ChoiceFault) → IsFirstItem r.from text begin end
    → run_of harts begin (text_between begin end text) ≡ Err fault → left_of harts text r ≡ none_left (Some fault)
fault_left harts begin end text r fault first bad = first_read harts r.from begin end end text (Err fault) first bad refl

-- ---- the bytes
-- a blank belongs to no item
pub blank_passed : (at : ℕ) (text : List ℕ) → at < length text → is_blank (get_or text at 0) ≡ true → items_from at text ≡ items_from (at + 1) text
blank_passed at text inside blank =
    ap (λ xs. items_of_parts at (slice_split is_blank xs)) (drop_more text at 0 inside)
    ∙ ap (items_of_parts at) (slice_split-cons_yes is_blank (get_or text at 0) (drop (at + 1) text) blank)

digit_plain : (hart : ℕ) → hart < 10 → is_blank (hart + 48) ≡ false
digit_plain hart few =
    let space : ((hart + 48) == 32) ≡ false = ne_eqb (hart + 48) 32 (λ e. omega (arith, e, few)) in
    let tab : ((hart + 48) == 9) ≡ false = ne_eqb (hart + 48) 9 (λ e. omega (arith, e, few)) in
    let feed : ((hart + 48) == 10) ≡ false = ne_eqb (hart + 48) 10 (λ e. omega (arith, e, few)) in
    let return : ((hart + 48) == 13) ≡ false = ne_eqb (hart + 48) 13 (λ e. omega (arith, e, few)) in
    rw (space, tab, feed, return) refl

-- a byte that isn't a blank, and a blank after it
byte_item : (from byte : ℕ) (text : List ℕ) → from + 1 < length text → get_or text from 0 ≡ byte → is_blank byte ≡ false
    → is_blank (get_or text (from + 1) 0) ≡ true
    → items_from from text ≡ record { at = from; text = byte ∷ [] } ∷ items_from (from + 2) text
byte_item from byte text inside is plain blank =
    let behind = drop (from + 1 + 1) text in
    let far : from + (length (byte ∷ []) + 1) ≡ from + 2 = omega arith in
    let two : from + 1 + 1 ≡ from + 2 = omega arith in
    let first : drop from text ≡ byte ∷ drop (from + 1) text = drop_more text from 0 (omega (arith, inside)) ∙ ap (λ b. b ∷ drop (from + 1) text) is in
    ap (λ xs. items_of_parts from (slice_split is_blank xs)) first
    ∙ ap (items_of_parts from) (slice_split-cons_no is_blank byte (drop (from + 1) text) plain)
    ∙ ap (λ xs. items_of_parts from (onto_first byte (slice_split is_blank xs))) (drop_more text (from + 1) 0 inside)
    ∙ ap (λ parts. items_of_parts from (onto_first byte parts)) (slice_split-cons_yes is_blank (get_or text (from + 1) 0) behind blank)
    ∙ ap (λ k. record { at = from; text = byte ∷ [] } ∷ items_of_parts k (slice_split is_blank behind)) far
    ∙ ap (λ k. record { at = from; text = byte ∷ [] } ∷ items_of_parts (from + 2) (slice_split is_blank (drop k text))) two

-- a digit of a hart that exists, and a blank after it
pub digit_first : (harts from hart : ℕ) (text : List ℕ) → harts < 2 ^ 32 → from + 1 < length text → get_or text from 0 ≡ hart + 48 → hart < 10
    → hart < harts → is_blank (get_or text (from + 1) 0) ≡ true
    → left_after harts text from ≡ item_then (Ok (choice_run (plain hart) 1)) (left_after harts text (from + 2))
digit_first harts from hart text few inside is low there blank =
    ap (left_of_items harts) (byte_item from (hart + 48) text inside is (digit_plain hart low) blank)
    ∙ ap (λ r. item_then r (left_after harts text (from + 2))) (digit_run harts from hart ((hart + 48) ∷ []) refl low there few)

-- ---- two digits
two_digits_named : (tens ones : ℕ) → 0 < tens → tens < 10 → ones < 10
    → NamesRun ((tens + 48) ∷ (ones + 48) ∷ []) (choice_run (plain (10 * tens + ones)) 1)
two_digits_named tens ones some low high =
    let first : digit_value (tens + 48) + 48 ≡ tens + 48 = digit_value_digit (tens + 48) (omega (arith, low)) in
    let second : digit_value (ones + 48) + 48 ≡ ones + 48 = digit_value_digit (ones + 48) (omega (arith, high)) in
    record {
      digits = (tens + 48) ∷ (ones + 48) ∷ [];
      counted = [];
      text = refl;
      number = record {
        numeral = (omega arith, (omega (arith, first, low), (omega (arith, second, high), tt)));
        no_leading_zero = λ zero. absurd (omega (arith, zero, some));
      };
      value = omega (arith, first, second);
      count = refl;
    }

-- two bytes that aren't blanks, and a blank after them
two_byte_item : (from a b : ℕ) (text : List ℕ) → from + 2 < length text → get_or text from 0 ≡ a → get_or text (from + 1) 0 ≡ b
    → is_blank a ≡ false → is_blank b ≡ false → is_blank (get_or text (from + 2) 0) ≡ true
    → items_from from text ≡ record { at = from; text = a ∷ b ∷ [] } ∷ items_from (from + 3) text
two_byte_item from a b text inside is_a is_b plain_a plain_b blank =
    let behind = drop (from + 2 + 1) text in
    let far : from + (length (a ∷ b ∷ []) + 1) ≡ from + 3 = omega arith in
    let next : from + 1 + 1 ≡ from + 2 = omega arith in
    let three : from + 2 + 1 ≡ from + 3 = omega arith in
    let first : drop from text ≡ a ∷ drop (from + 1) text = drop_more text from 0 (omega (arith, inside)) ∙ ap (λ c. c ∷ drop (from + 1) text) is_a in
    let second : drop (from + 1) text ≡ b ∷ drop (from + 2) text =
    drop_more text (from + 1) 0 (omega (arith, inside)) ∙ ap (λ c. c ∷ drop (from + 1 + 1) text) is_b ∙ ap (λ k. b ∷ drop k text) next in
    ap (λ xs. items_of_parts from (slice_split is_blank xs)) first
    ∙ ap (items_of_parts from) (slice_split-cons_no is_blank a (drop (from + 1) text) plain_a)
    ∙ ap (λ xs. items_of_parts from (onto_first a (slice_split is_blank xs))) second
    ∙ ap (λ parts. items_of_parts from (onto_first a parts)) (slice_split-cons_no is_blank b (drop (from + 2) text) plain_b)
    ∙ ap (λ xs. items_of_parts from (onto_first a (onto_first b (slice_split is_blank xs)))) (drop_more text (from + 2) 0 inside)
    ∙ ap (λ parts. items_of_parts from (onto_first a (onto_first b parts))) (slice_split-cons_yes is_blank (get_or text (from + 2) 0) behind blank)
    ∙ ap (λ k. record { at = from; text = a ∷ b ∷ [] } ∷ items_of_parts k (slice_split is_blank behind)) far
    ∙ ap (λ k. record { at = from; text = a ∷ b ∷ [] } ∷ items_of_parts (from + 3) (slice_split is_blank (drop k text))) three

-- two digits of a hart that exists, and a blank after them
pub two_digits_first : (harts from tens ones : ℕ) (text : List ℕ) → harts < 2 ^ 32 → from + 2 < length text
    → get_or text from 0 ≡ tens + 48 → get_or text (from + 1) 0 ≡ ones + 48 → 0 < tens → tens < 10 → ones < 10
    → 10 * tens + ones < harts → is_blank (get_or text (from + 2) 0) ≡ true
    → left_after harts text from ≡ item_then (Ok (choice_run (plain (10 * tens + ones)) 1)) (left_after harts text (from + 3))
two_digits_first harts from tens ones text few inside is_tens is_ones some low high there blank =
    ap (left_of_items harts)
    (two_byte_item from (tens + 48) (ones + 48) text inside is_tens is_ones (digit_plain tens low) (digit_plain ones high) blank)
    ∙ ap (λ r. item_then r (left_after harts text (from + 3)))
    (run_named ((tens + 48) ∷ (ones + 48) ∷ []) _ (two_digits_named tens ones some low high) harts from few there)
