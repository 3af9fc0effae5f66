-- What an item that names a run says of its bytes.
use Rattle.std.proofs.Common.{◌≡◌, ℕ, ◌+◌, ◌^◌, ◌<◌, ◌≤◌, lit<, inl, inr, ◌⊎◌, Bool, true, false, List, [], ◌∷◌, ◌++◌, length, drop, get_or, Option, Some, None, Ok, refl, arith, ap, sym, ◌∙◌, lt-ltb, ltb-true, ltb-false, length-append, append_assoc, append-nil, subst}
use Rattle.std.proofs.lemmas.List.Elements.{All-nil, All-cons, All-append}
use Rattle.std.specs.Prelude.{◌&&◌, if◌then◌else◌, nat_lt}
use Rattle.std.specs.List.{All}
use Rattle.std.specs.Char.{digit_value}
use Rattle.std.proofs.lemmas.Str.{digit_value_digit}
use Rattle.text_items.specs.Items.{is_blank}
use Rattle.text_items.specs.Numbers.{IsNumber, mark_of, number_of, has_mark, before_mark, unmarked, before_byte, from_byte}
use Rattle.text_items.proofs.Numbers.{NumberTold, number_told, has_mark-marked, before_mark-marked, has_mark-number, digits_plain, mark_plain, number_read}
use Rattle.text_items.proofs.ByteLemmas.{HasNone, digits_have_none, have_none-append, before_byte-there, from_byte-there, before_byte-none, from_byte-none}
use Rattle.sched_text.specs.declared.run.Run.{Run}
use Rattle.sched_text.specs.Runs.{choice_run}
use Rattle.sched_text.specs.Grammar.{Counts, NamesRun}
use Rattle.sched_text.specs.Reading.{count_in, count_of, run_by, run_of}

-- ---- the count

-- what the count that is read says of its bytes
abbrev pub CountTold : List ℕ → Option ℕ → Type 0
CountTold counted None = (n : ℕ) → Counts counted n → ⊥
CountTold counted (Some n) = Counts counted n

count_in_told : (star : ℕ) (digits : List ℕ) → star ≡ 42 → (number : Option ℕ) → NumberTold digits number
    → CountTold (star ∷ digits) (count_in number)
count_in_told star digits is None none = λ n counts. none counts.1
count_in_told star digits is (Some k) some = by (nat_lt 0 k) refl (nat_lt k 16777217) refl
  where
    by : (a : Bool) → nat_lt 0 k ≡ a → (b : Bool) → nat_lt k 16777217 ≡ b → CountTold (star ∷ digits) (if a && b then Some k else None)
    by true low true high =
        let first : 0 < k = ltb-true 0 k low in
        let last : k < 16777217 = ltb-true k 16777217 high in
        (is, some.0, omega (arith, some.1, last), omega (arith, first), omega (arith, last))
    by true low false high = λ n counts.
        let above : 16777217 ≤ k = ltb-false k 16777217 high in
        let value = counts.2 in
        let most = counts.4 in
        omega (arith, some.1, above, value, most)
    by false low b high = λ n counts.
        let none : k ≤ 0 = ltb-false 0 k low in
        let value = counts.2 in
        let least = counts.3 in
        omega (arith, some.1, none, value, least)

-- the count of bytes that are empty, or begin with `*`
pub count_told : (counted : List ℕ) → (counted ≡ []) ⊎ (counted ≡ 42 ∷ drop 1 counted) → CountTold counted (count_of counted)
count_told [] form = refl
count_told (star ∷ digits) (inl none) = absurd (cc)
count_told (star ∷ digits) (inr there) =
    count_in_told star digits (ap (λ xs. get_or xs 0 0) there) (number_of digits) (number_told digits)

-- a count is read
count_read : (counted : List ℕ) (n : ℕ) → Counts counted n → count_of counted ≡ Some n
count_read [] n once = ap Some (sym once)
count_read (star ∷ digits) n counts =
    let value = counts.2 in
    let low : nat_lt 0 n ≡ true = let least = counts.3 in lt-ltb 0 n (omega (arith, least)) in
    let high : nat_lt n 16777217 ≡ true = let most = counts.4 in lt-ltb n 16777217 (omega (arith, most)) in
    let small : n < 2 ^ 32 = let most = counts.4 in omega (arith, most) in
    ap count_in (number_read digits n counts.1 value small) ∙ rw (low, high) refl

counted_form : (counted : List ℕ) (n : ℕ) → Counts counted n → (counted ≡ []) ⊎ (counted ≡ 42 ∷ drop 1 counted)
counted_form [] n once = inl refl
counted_form (star ∷ digits) n counts = inr (ap (λ b. b ∷ digits) counts.0)

-- ---- the hart and the mark

-- digits and a mark after them are found again
marked_parts : (digits : List ℕ) (refuse : Bool) → IsNumber digits
    → (has_mark (digits ++ mark_of refuse) ≡ refuse) × (unmarked (digits ++ mark_of refuse) ≡ digits)
marked_parts digits true number =
    let mark = has_mark-marked digits in
    (mark, ap (λ (b : Bool). if b then before_mark (digits ++ 33 ∷ []) else digits ++ 33 ∷ []) mark ∙ before_mark-marked digits)
marked_parts digits false number =
    let mark : has_mark (digits ++ []) ≡ false = ap has_mark (append-nil digits) ∙ has_mark-number digits number in
    (mark, ap (λ (b : Bool). if b then before_mark (digits ++ []) else digits ++ []) mark ∙ append-nil digits)

no_star_in_mark : (refuse : Bool) → HasNone 42 (mark_of refuse)
no_star_in_mark true = (λ e. absurd (omega (arith, e)), tt)
no_star_in_mark false = tt

no_star : (digits : List ℕ) (refuse : Bool) → IsNumber digits → HasNone 42 (digits ++ mark_of refuse)
no_star digits refuse number =
    have_none-append 42 digits (mark_of refuse) (digits_have_none 42 digits (lit< tt) number.numeral.1) (no_star_in_mark refuse)

-- an item is cut where its count begins
cut : (front counted : List ℕ) → HasNone 42 front → (counted ≡ []) ⊎ (counted ≡ 42 ∷ drop 1 counted)
    → (before_byte 42 (front ++ counted) ≡ front) × (from_byte 42 (front ++ counted) ≡ counted)
cut front counted none (inl e) =
    let whole : front ++ counted ≡ front = ap (λ xs. front ++ xs) e ∙ append-nil front in
    (ap (before_byte 42) whole ∙ before_byte-none 42 front none, ap (from_byte 42) whole ∙ from_byte-none 42 front none ∙ sym e)
cut front counted none (inr e) =
    let whole : front ++ counted ≡ front ++ 42 ∷ drop 1 counted = ap (λ xs. front ++ xs) e in (
      ap (before_byte 42) whole ∙ before_byte-there 42 front (drop 1 counted) none,
      ap (from_byte 42) whole ∙ from_byte-there 42 front (drop 1 counted) none ∙ sym e,
    )

module _ (item : List ℕ) (r : Run) (n : NamesRun item r) where
  whole : item ≡ (n.digits ++ mark_of r.choice.refuse) ++ n.counted
  whole = n.text ∙ sym (append_assoc n.digits (mark_of r.choice.refuse) n.counted)

  front_named : before_byte 42 item ≡ n.digits ++ mark_of r.choice.refuse
  front_named =
      ap (before_byte 42) whole
      ∙ (cut (n.digits ++ mark_of r.choice.refuse) n.counted (no_star n.digits r.choice.refuse n.number) (counted_form n.counted r.count n.count)).0

  pub counted_named : from_byte 42 item ≡ n.counted
  counted_named =
      ap (from_byte 42) whole
      ∙ (cut (n.digits ++ mark_of r.choice.refuse) n.counted (no_star n.digits r.choice.refuse n.number) (counted_form n.counted r.count n.count)).1

  pub digits_named : unmarked (before_byte 42 item) ≡ n.digits
  digits_named = ap unmarked front_named ∙ (marked_parts n.digits r.choice.refuse n.number).1

  mark_named : has_mark (before_byte 42 item) ≡ r.choice.refuse
  mark_named = ap has_mark front_named ∙ (marked_parts n.digits r.choice.refuse n.number).0

  -- the run that an item names is read
  pub run_named : (harts at : ℕ) → harts < 2 ^ 32 → r.choice.hart < harts → run_of harts at item ≡ Ok r
  run_named harts at few below =
      let there : nat_lt r.choice.hart harts ≡ true = lt-ltb r.choice.hart harts below in
      ap (λ o. run_by o (count_of (from_byte 42 item)) harts at (has_mark (before_byte 42 item)))
      (ap number_of digits_named ∙ number_read n.digits r.choice.hart n.number n.value (omega (arith, few, below)))
      ∙ ap (λ o. run_by (Some r.choice.hart) o harts at (has_mark (before_byte 42 item)))
      (ap count_of counted_named ∙ count_read n.counted r.count n.count)
      ∙ ap (λ b. run_by (Some r.choice.hart) (Some r.count) harts at b) mark_named
      ∙ rw there refl

-- ---- its bytes
abbrev plain : ℕ → Type 0
plain b = is_blank b ≡ false

counted_plain : (counted : List ℕ) (n : ℕ) → Counts counted n → All (λ b. is_blank b ≡ false) counted
counted_plain [] n once = All-nil plain
counted_plain (star ∷ digits) n counts =
    All-cons plain star digits (ap is_blank counts.0) (digits_plain digits counts.1.numeral.1)

-- an item that names a run has no blank
pub named_plain : (item : List ℕ) (r : Run) → NamesRun item r → All (λ b. is_blank b ≡ false) item
named_plain item r n =
    subst (All (λ b. is_blank b ≡ false)) (sym n.text)
    (All-append plain n.digits (mark_of r.choice.refuse ++ n.counted) (digits_plain n.digits n.number.numeral.1)
    (All-append plain (mark_of r.choice.refuse) n.counted (mark_plain r.choice.refuse) (counted_plain n.counted r.count n.count)))

pub named_some : (item : List ℕ) (r : Run) → NamesRun item r → 0 < length item
named_some item r n =
    let some = n.number.numeral.0 in
    omega (arith, some, ap length n.text, length-append n.digits (mark_of r.choice.refuse ++ n.counted))

-- ---- a single digit

digit_named : (b hart : ℕ) → b ≡ hart + 48 → hart < 10 → NamesRun (b ∷ []) (choice_run (record { hart = hart; refuse = false }) 1)
digit_named b hart is few =
    let value : digit_value b + 48 ≡ b = digit_value_digit b (omega (arith, is, few)) in
    record {
      digits = b ∷ [];
      counted = [];
      text = refl;
      number = record { numeral = (omega arith, (omega (arith, value, is, few), tt)); no_leading_zero = λ zero. refl };
      value = omega (arith, value, is);
      count = refl;
    }

-- it is read as one choice of its hart
pub digit_run : (harts at hart : ℕ) (item : List ℕ) → item ≡ (hart + 48) ∷ [] → hart < 10 → hart < harts → harts < 2 ^ 32
    → run_of harts at item ≡ Ok (choice_run (record { hart = hart; refuse = false }) 1)
digit_run harts at hart item is few there below =
    ap (run_of harts at) is ∙ run_named ((hart + 48) ∷ []) _ (digit_named (hart + 48) hart refl few) harts at below there
