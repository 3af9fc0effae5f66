-- Reading gives exactly what the grammar says.
use Rattle.std.proofs.Common.{◌≡◌, ℕ, ◌+◌, ◌^◌, ◌<◌, ◌≤◌, inl, inr, Bool, true, false, List, ◌∷◌, ◌++◌, length, drop, Option, Some, None, Ok, Err, refl, arith, ap, sym, ◌∙◌, append_assoc, subst, ltb-true, ltb-false}
use Rattle.std.specs.Prelude.{nat_lt, if◌then◌else◌}
use Rattle.std.specs.List.{All}
use Rattle.std.specs.Str.Parse.{digits_value}
use Rattle.text_items.specs.Numbers.{IsNumber, mark_of, number_of, has_mark, unmarked}
use Rattle.text_items.proofs.Numbers.{NumberTold, number_told, item_is}
use Rattle.text_items.proofs.Agreement as texts
use Rattle.text_items.proofs.Decided as texts_decided
use Rattle.text_items.specs.Spelling.{SpellsOrSpoils}
use Rattle.history.specs.declared.entry.Entry.{Entry}
use Rattle.history.specs.declared.history_text.HistoryFault.{HistoryFault}
use Rattle.history.specs.declared.history_text.HistoryFault.TheVariants.{BadEntry, NoHart}
use Rattle.history.specs.Grammar.{NamesEntry, SpellsHistory, SpoilsHistory}
use Rattle.history.specs.Reading.{before_plus, after_plus, entry_by, entry_of, entries_of}
use Rattle.history.proofs.EntryLemmas.{before_plus-named, after_plus-named, plus_between, named_parts, named_plain, named_some, entry_named}

module _ (item : List ℕ) where
  hart_named : (e : Entry) → (n : NamesEntry item e) → before_plus (unmarked item) ≡ n.hart_digits
  hart_named e n = ap before_plus (named_parts item e n).1 ∙ before_plus-named n.hart_digits n.local_digits n.hart_number

  local_named : (e : Entry) → (n : NamesEntry item e) → after_plus (unmarked item) ≡ n.local_digits
  local_named e n = ap after_plus (named_parts item e n).1 ∙ after_plus-named n.hart_digits n.local_digits n.hart_number

  -- two numbers with a `+` between them name an entry
  two_numbers : (hart local : ℕ) → IsNumber (before_plus (unmarked item)) → IsNumber (after_plus (unmarked item))
      → digits_value 10 (before_plus (unmarked item)) ≡ hart → digits_value 10 (after_plus (unmarked item)) ≡ local → local < 2 ^ 32
      → NamesEntry item (record { hart = hart; local = local; refuse = has_mark item })
  two_numbers hart local first second hart_is local_is small =
      let some = second.numeral.0 in
      record {
        hart_digits = before_plus (unmarked item);
        local_digits = after_plus (unmarked item);
        text = item_is item ∙ ap (λ f. f ++ mark_of (has_mark item)) (plus_between (unmarked item) some)
            ∙ append_assoc (before_plus (unmarked item)) (43 ∷ after_plus (unmarked item)) (mark_of (has_mark item));
        hart_number = first;
        local_number = second;
        hart = hart_is;
        local = local_is;
        small = small;
      }

  module _ (harts at : ℕ) (few : harts < 2 ^ 32) where
    numbers_told : (hart local : Option ℕ) → NumberTold (before_plus (unmarked item)) hart → NumberTold (after_plus (unmarked item)) local
        → texts.ItemTold NamesEntry (λ e. e.hart < harts) BadEntry NoHart at item (entry_by hart local harts at (has_mark item))
    numbers_told None local first second = inl (refl, λ e n. first (subst IsNumber (sym (hart_named e n)) n.hart_number))
    numbers_told (Some h) None first second = inl (refl, λ e n. second (subst IsNumber (sym (local_named e n)) n.local_number))
    numbers_told (Some h) (Some l) first second = by (nat_lt l (2 ^ 32)) refl
      where
        there : (b : Bool) → nat_lt h harts ≡ b → l < 2 ^ 32
            → texts.ItemTold NamesEntry (λ e. e.hart < harts) BadEntry NoHart at item (if b then Ok (record { hart = h; local = l; refuse = has_mark item }) else Err (NoHart at))
        there true is small =
            let below : h < harts = ltb-true h harts is in
            let hart_is : digits_value 10 (before_plus (unmarked item)) ≡ h = omega (arith, first.1) in
            let local_is : digits_value 10 (after_plus (unmarked item)) ≡ l = omega (arith, second.1) in
            (two_numbers h l first.0 second.0 hart_is local_is small, below)
        there false is small =
            let above : harts ≤ h = ltb-false h harts is in
            let hart = digits_value 10 (before_plus (unmarked item)) in
            let local_is : digits_value 10 (after_plus (unmarked item)) ≡ l = omega (arith, second.1) in
            inr (refl, (record { hart = hart; local = l; refuse = has_mark item }, two_numbers hart l first.0 second.0 refl local_is small, λ below. omega (arith, first.1, above, below)))

        by : (b : Bool) → nat_lt l (2 ^ 32) ≡ b
            → texts.ItemTold NamesEntry (λ e. e.hart < harts) BadEntry NoHart at item (if b then if nat_lt h harts then Ok (record { hart = h; local = l; refuse = has_mark item }) else Err (NoHart at) else Err (BadEntry at))
        by true is = there (nat_lt h harts) refl (ltb-true l (2 ^ 32) is)
        by false is =
            let above : 2 ^ 32 ≤ l = ltb-false l (2 ^ 32) is in
            inl (
              refl,
              λ e n.
                  let value : digits_value 10 (after_plus (unmarked item)) ≡ e.local = ap (digits_value 10) (local_named e n) ∙ n.local in
                  let small = n.small in
                  omega (arith, second.1, above, value, small),
            )

item_told : (harts : ℕ) → harts < 2 ^ 32 → (at : ℕ) (item : List ℕ)
    → texts.ItemTold NamesEntry (λ e. e.hart < harts) BadEntry NoHart at item (entry_of harts at item)
item_told harts few at item =
    numbers_told item harts at few _ _ (number_told (before_plus (unmarked item))) (number_told (after_plus (unmarked item)))

pub spells_of : (harts : ℕ) (text : List ℕ) (entries : List Entry) → harts < 2 ^ 32 → entries_of harts text ≡ Ok entries → SpellsHistory harts text entries
spells_of harts text entries few e =
    texts.spells_of NamesEntry (λ e. e.hart < harts) BadEntry NoHart (entry_of harts) (item_told harts few) text entries e

pub spoils_of : (harts : ℕ) (text : List ℕ) (fault : HistoryFault) → harts < 2 ^ 32 → entries_of harts text ≡ Err fault → SpoilsHistory harts 0 text fault
spoils_of harts text fault few e =
    texts.spoils_of NamesEntry (λ e. e.hart < harts) BadEntry NoHart (entry_of harts) (item_told harts few) text fault e

-- a text that is read names harts that exist
pub hart_within : (harts : ℕ) (text : List ℕ) (entries : List Entry) → SpellsHistory harts text entries → All (λ e. e.hart < harts) entries
hart_within harts text entries spelled = texts.all_there NamesEntry (λ e. e.hart < harts) text entries spelled

-- what a text spells is read
pub entries_of-spelled : (harts : ℕ) (text : List ℕ) (entries : List Entry) → harts < 2 ^ 32 → SpellsHistory harts text entries
    → entries_of harts text ≡ Ok entries
entries_of-spelled harts text entries few spelled =
    texts.values_of-spelled NamesEntry (λ e. e.hart < harts) (entry_of harts) named_plain named_some
    (λ at item e names below. entry_named harts at item e few names below) text entries spelled

-- what an item denotes is one hart's
there_too : (harts : ℕ) (item : List ℕ) (e other : Entry) → NamesEntry item e → NamesEntry item other → e.hart < harts → other.hart < harts
there_too harts item e other n m below =
    let same : e.hart ≡ other.hart
    = sym n.hart ∙ ap (digits_value 10) (sym (hart_named item e n) ∙ hart_named item other m) ∙ m.hart in
    subst (λ h. h < harts) same below

-- what spoils a text is read as its fault
pub entries_of-spoiled : (harts : ℕ) (text : List ℕ) (fault : HistoryFault) → harts < 2 ^ 32 → SpoilsHistory harts 0 text fault
    → entries_of harts text ≡ Err fault
entries_of-spoiled harts text fault few spoiled =
    texts_decided.values_of-spoiled NamesEntry (λ e. e.hart < harts) BadEntry NoHart (entry_of harts)
    (item_told harts few) (there_too harts) named_plain named_some
    (λ at item e names below. entry_named harts at item e few names below) text fault spoiled

pub decided : (harts : ℕ) (text : List ℕ) → harts < 2 ^ 32 → SpellsOrSpoils (SpellsHistory harts text) (SpoilsHistory harts 0 text)
decided harts text few =
    texts_decided.decided (SpellsHistory harts text) (SpoilsHistory harts 0 text) (entries_of harts text)
    (λ entries. (λ e. spells_of harts text entries few e, λ spelled. entries_of-spelled harts text entries few spelled))
    (λ fault. (λ e. spoils_of harts text fault few e, λ spoiled. entries_of-spoiled harts text fault few spoiled))
