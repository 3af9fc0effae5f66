-- What an item that names an entry says of its bytes.
use Rattle.std.proofs.Common.{◌≡◌, ℕ, suc, ◌+◌, ◌-◌, ◌^◌, ◌<◌, lit<, inl, inr, Bool, true, false, List, [], ◌∷◌, ◌++◌, length, drop, get_or, Some, Ok, refl, arith, ap, sym, ◌∙◌, lt-ltb, length-append, append_assoc, append-nil, subst}
use Rattle.std.proofs.lemmas.List.{get_or-append-add}
use Rattle.std.proofs.lemmas.List.Elements.{All-cons, All-append}
use Rattle.std.specs.Prelude.{◌==◌, if◌then◌else◌, nat_lt}
use Rattle.std.specs.List.{All}
use Rattle.std.specs.Str.Parse.{digits_value}
use Rattle.text_items.specs.Items.{is_blank}
use Rattle.text_items.specs.Numbers.{IsNumber, mark_of, number_of, has_mark, before_mark, unmarked}
use Rattle.text_items.proofs.Numbers.{has_mark-marked, before_mark-marked, has_mark-number, digits_plain, mark_plain, number_read}
use Rattle.text_items.proofs.ByteLemmas.{HasNone, digits_have_none, before_byte-there, from_byte-there, from_byte_is, parts_make}
use Rattle.history.specs.declared.entry.Entry.{Entry}
use Rattle.history.specs.Grammar.{NamesEntry}
use Rattle.history.specs.Reading.{before_plus, after_plus, entry_by, entry_of}

-- digits have no `+`
no_plus : (digits : List ℕ) → IsNumber digits → HasNone 43 digits
no_plus digits number = digits_have_none 43 digits (lit< tt) number.numeral.1

pub before_plus-named : (digits rest : List ℕ) → IsNumber digits → before_plus (digits ++ 43 ∷ rest) ≡ digits
before_plus-named digits rest number = before_byte-there 43 digits rest (no_plus digits number)

pub after_plus-named : (digits rest : List ℕ) → IsNumber digits → after_plus (digits ++ 43 ∷ rest) ≡ rest
after_plus-named digits rest number = ap (drop 1) (from_byte-there 43 digits rest (no_plus digits number))

-- if there are bytes after the first `+`, there is one
pub plus_between : (front : List ℕ) → 0 < length (after_plus front) → front ≡ before_plus front ++ 43 ∷ after_plus front
plus_between front some = elim (from_byte_is 43 front) [
  | inl none ↦ absurd (omega (arith, some, ap (λ rest. length (drop 1 rest)) none))
  | inr there ↦ sym (parts_make 43 front) ∙ ap (λ rest. before_plus front ++ rest) there
]

-- the last byte after a `+` is the last of the number there
last_behind : (front digits : List ℕ) → 0 < length digits
    → get_or (front ++ 43 ∷ digits) (length (front ++ 43 ∷ digits) - 1) 0 ≡ get_or digits (length digits - 1) 0
last_behind front digits some =
    let long : length (front ++ 43 ∷ digits) - 1 ≡ length front + suc (length digits - 1) = omega (arith, length-append front (43 ∷ digits), some) in
    ap (λ k. get_or (front ++ 43 ∷ digits) k 0) long ∙ get_or-append-add front (43 ∷ digits) (suc (length digits - 1)) 0

has_mark-entry : (front digits : List ℕ) → IsNumber digits → has_mark (front ++ 43 ∷ digits) ≡ false
has_mark-entry front digits number =
    ap (λ b. b == 33) (last_behind front digits number.numeral.0) ∙ has_mark-number digits number

-- the mark of an item that names an entry is the entry's, and before it are both numbers
pub named_parts : (item : List ℕ) (e : Entry) → (n : NamesEntry item e)
    → (has_mark item ≡ e.refuse) × (unmarked item ≡ n.hart_digits ++ 43 ∷ n.local_digits)
named_parts item e n = by e.refuse n.text
  where
    front : List ℕ
    front = n.hart_digits ++ 43 ∷ n.local_digits

    with : (b : Bool) → has_mark item ≡ b → (if b then before_mark item else item) ≡ front → unmarked item ≡ front
    with b h e = ap (λ (c : Bool). if c then before_mark item else item) h ∙ e

    by : (refuse : Bool) → item ≡ n.hart_digits ++ 43 ∷ (n.local_digits ++ mark_of refuse)
        → (has_mark item ≡ refuse) × (unmarked item ≡ front)
    by true text =
        let whole : item ≡ front ++ 33 ∷ [] = text ∙ sym (append_assoc n.hart_digits (43 ∷ n.local_digits) (33 ∷ [])) in
        let mark : has_mark item ≡ true = ap has_mark whole ∙ has_mark-marked front in
        (mark, with true mark (ap before_mark whole ∙ before_mark-marked front))
    by false text =
        let whole : item ≡ front = text ∙ ap (λ l. n.hart_digits ++ 43 ∷ l) (append-nil n.local_digits) in
        let mark : has_mark item ≡ false = ap has_mark whole ∙ has_mark-entry n.hart_digits n.local_digits n.local_number in
        (mark, with false mark whole)

plus_plain : is_blank 43 ≡ false
plus_plain = refl

-- an item that names an entry has no blank
pub named_plain : (item : List ℕ) (e : Entry) → NamesEntry item e → All (λ b. is_blank b ≡ false) item
named_plain item e n =
    subst (All (λ b. is_blank b ≡ false)) (sym n.text)
    (All-append (λ b. is_blank b ≡ false) n.hart_digits (43 ∷ (n.local_digits ++ mark_of e.refuse)) (digits_plain n.hart_digits n.hart_number.numeral.1)
    (All-cons (λ b. is_blank b ≡ false) 43 (n.local_digits ++ mark_of e.refuse) plus_plain
    (All-append (λ b. is_blank b ≡ false) n.local_digits (mark_of e.refuse) (digits_plain n.local_digits n.local_number.numeral.1) (mark_plain e.refuse))))

pub named_some : (item : List ℕ) (e : Entry) → NamesEntry item e → 0 < length item
named_some item e n =
    let some = n.hart_number.numeral.0 in
    omega (arith, some, ap length n.text, length-append n.hart_digits (43 ∷ (n.local_digits ++ mark_of e.refuse)))

-- the entry that an item names is read
pub entry_named : (harts at : ℕ) (item : List ℕ) (e : Entry) → harts < 2 ^ 32 → NamesEntry item e → e.hart < harts
    → entry_of harts at item ≡ Ok e
entry_named harts at item e few n below =
    let parts = named_parts item e n in
    let hart_is = number_read n.hart_digits e.hart n.hart_number n.hart (omega (arith, few, below)) in
    let local_is = number_read n.local_digits e.local n.local_number n.local n.small in
    let small : nat_lt e.local (2 ^ 32) ≡ true = lt-ltb e.local (2 ^ 32) n.small in
    let there : nat_lt e.hart harts ≡ true = lt-ltb e.hart harts below in
    ap (λ f. entry_by (number_of (before_plus f)) (number_of (after_plus f)) harts at (has_mark item)) parts.1
    ∙ ap (λ f. entry_by (number_of f) (number_of (after_plus (n.hart_digits ++ 43 ∷ n.local_digits))) harts at (has_mark item)) (before_plus-named n.hart_digits n.local_digits n.hart_number)
    ∙ ap (λ f. entry_by (number_of n.hart_digits) (number_of f) harts at (has_mark item)) (after_plus-named n.hart_digits n.local_digits n.hart_number)
    ∙ ap (λ o. entry_by o (number_of n.local_digits) harts at (has_mark item)) hart_is
    ∙ ap (λ o. entry_by (Some e.hart) o harts at (has_mark item)) local_is
    ∙ rw (small, there, parts.0) refl
