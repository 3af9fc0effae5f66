-- Reading gives exactly what the grammar says.
use Rattle.std.proofs.Common.{◌≡◌, ℕ, ◌^◌, ◌<◌, ◌≤◌, inl, inr, Bool, true, false, List, [], ◌++◌, Option, Some, None, Ok, Err, refl, arith, ap, sym, ◌∙◌, append_assoc, append-nil, subst, ltb-true, ltb-false}
use Rattle.std.specs.Prelude.{nat_lt, if◌then◌else◌}
use Rattle.std.specs.List.{All}
use Rattle.std.specs.Str.Parse.{digits_value}
use Rattle.std.specs.declared.result.Result.{Result}
use Rattle.machine.specs.declared.choice.Choice.{Choice}
use Rattle.text_items.specs.Items.{items_from, text_between, IsFirstItem}
use Rattle.text_items.specs.Numbers.{IsNumber, mark_of, has_mark, unmarked, before_byte, from_byte}
use Rattle.text_items.specs.Reading.{values_named, values_of, value_then}
use Rattle.text_items.proofs.Numbers.{NumberTold, number_told, item_is}
use Rattle.text_items.proofs.ByteLemmas.{from_byte_is, parts_make}
use Rattle.text_items.proofs.Agreement as texts
use Rattle.text_items.proofs.Decided as texts_decided
use Rattle.text_items.specs.Spelling.{SpellsOrSpoils}
use Rattle.sched_text.specs.declared.run.Run.{Run}
use Rattle.sched_text.specs.declared.choice_text.ChoiceFault.{ChoiceFault}
use Rattle.sched_text.specs.declared.choice_text.ChoiceFault.TheVariants.{BadChoice, NoHart}
use Rattle.sched_text.specs.Runs.{choice_run, equal_choices, expanded_runs}
use Rattle.sched_text.specs.Grammar.{Counts, NamesRun, SpellsRuns, SpellsChoices, SpoilsChoices}
use Rattle.sched_text.specs.Reading.{run_by, run_of, expanded_after, choices_read}
use Rattle.sched_text.proofs.ItemLemmas.{CountTold, count_told, digits_named, counted_named, run_named, named_plain, named_some}
use Rattle.sched_text.proofs.ExpandLemmas.{all_expanded}

module _ (item : List ℕ) where
  -- a number, a mark and a count name a run
  parts_name : (hart count : ℕ) → IsNumber (unmarked (before_byte 42 item)) → digits_value 10 (unmarked (before_byte 42 item)) ≡ hart
      → Counts (from_byte 42 item) count
      → NamesRun item (choice_run (record { hart = hart; refuse = has_mark (before_byte 42 item) }) count)
  parts_name hart count number value counts =
      let front = before_byte 42 item in
      record {
        digits = unmarked front;
        counted = from_byte 42 item;
        text = sym (parts_make 42 item) ∙ ap (λ f. f ++ from_byte 42 item) (item_is front)
            ∙ append_assoc (unmarked front) (mark_of (has_mark front)) (from_byte 42 item);
        number = number;
        value = value;
        count = counts;
      }

  module _ (harts at : ℕ) (few : harts < 2 ^ 32) where
    parts_told : (hart count : Option ℕ) → NumberTold (unmarked (before_byte 42 item)) hart → CountTold (from_byte 42 item) count
        → texts.ItemTold NamesRun (λ r. r.choice.hart < harts) BadChoice NoHart at item (run_by hart count harts at (has_mark (before_byte 42 item)))
    parts_told None count first second = inl (refl, λ r n. first (subst IsNumber (sym (digits_named item r n)) n.number))
    parts_told (Some h) None first second = inl (refl, λ r n. second r.count (subst (λ xs. Counts xs r.count) (sym (counted_named item r n)) n.count))
    parts_told (Some h) (Some count) first second = by (nat_lt h harts) refl
      where
        by : (b : Bool) → nat_lt h harts ≡ b
            → texts.ItemTold NamesRun (λ r. r.choice.hart < harts) BadChoice NoHart at item (if b then Ok (choice_run (record { hart = h; refuse = has_mark (before_byte 42 item) }) count) else Err (NoHart at))
        by true is =
            let below : h < harts = ltb-true h harts is in
            let value : digits_value 10 (unmarked (before_byte 42 item)) ≡ h = omega (arith, first.1, below, few) in
            (parts_name h count first.0 value second, below)
        by false is =
            let above : harts ≤ h = ltb-false h harts is in
            let hart = digits_value 10 (unmarked (before_byte 42 item)) in
            inr (refl, (choice_run (record { hart = hart; refuse = has_mark (before_byte 42 item) }) count, parts_name hart count first.0 refl second, λ below. omega (arith, first.1, above, below)))

item_told : (harts : ℕ) → harts < 2 ^ 32 → (at : ℕ) (item : List ℕ)
    → texts.ItemTold NamesRun (λ r. r.choice.hart < harts) BadChoice NoHart at item (run_of harts at item)
item_told harts few at item =
    parts_told item harts at few _ _ (number_told (unmarked (before_byte 42 item))) (count_told (from_byte 42 item) (from_byte_is 42 item))

-- runs that are read are spelled
runs_spelled : (harts : ℕ) (text : List ℕ) (runs : List Run) → harts < 2 ^ 32 → values_of (run_of harts) text ≡ Ok runs → SpellsRuns harts text runs
runs_spelled harts text runs few e =
    texts.spells_of NamesRun (λ r. r.choice.hart < harts) BadChoice NoHart (run_of harts) (item_told harts few) text runs e

runs_spoiled : (harts : ℕ) (text : List ℕ) (fault : ChoiceFault) → harts < 2 ^ 32 → values_of (run_of harts) text ≡ Err fault → SpoilsChoices harts 0 text fault
runs_spoiled harts text fault few e =
    texts.spoils_of NamesRun (λ r. r.choice.hart < harts) BadChoice NoHart (run_of harts) (item_told harts few) text fault e

pub spells_of : (harts : ℕ) (text : List ℕ) (choices : List Choice) → harts < 2 ^ 32 → choices_read harts text ≡ Ok choices → SpellsChoices harts text choices
spells_of harts text choices few e = by (values_of (run_of harts) text) refl e
  where
    by : (r : Result (List Run) ChoiceFault) → values_of (run_of harts) text ≡ r → expanded_after [] r ≡ Ok choices → SpellsChoices harts text choices
    by (Ok runs) read same = record { runs = runs; spelled = runs_spelled harts text runs few read; in_order = let e = same in cc }
    by (Err fault) read same = absurd (cc)

pub spoils_of : (harts : ℕ) (text : List ℕ) (fault : ChoiceFault) → harts < 2 ^ 32 → choices_read harts text ≡ Err fault → SpoilsChoices harts 0 text fault
spoils_of harts text fault few e = by (values_of (run_of harts) text) refl e
  where
    by : (r : Result (List Run) ChoiceFault) → values_of (run_of harts) text ≡ r → expanded_after [] r ≡ Err fault → SpoilsChoices harts 0 text fault
    by (Ok runs) read same = absurd (cc)
    by (Err other) read same = runs_spoiled harts text fault few (read ∙ let e = same in cc)

-- a text that is read names harts that exist
pub hart_within : (harts : ℕ) (text : List ℕ) (choices : List Choice) → SpellsChoices harts text choices → All (λ c. c.hart < harts) choices
hart_within harts text choices spelled =
    subst (All (λ (c : Choice). c.hart < harts)) (sym spelled.in_order)
    (all_expanded (λ c. c.hart < harts) spelled.runs (texts.all_there NamesRun (λ r. r.choice.hart < harts) text spelled.runs spelled.spelled))

-- what a text spells is read
pub choices_of-spelled : (harts : ℕ) (text : List ℕ) (choices : List Choice) → harts < 2 ^ 32 → SpellsChoices harts text choices
    → choices_read harts text ≡ Ok choices
choices_of-spelled harts text choices few spelled =
    ap (expanded_after []) (texts.values_of-spelled NamesRun (λ r. r.choice.hart < harts) (run_of harts) named_plain named_some
    (λ at item r names below. run_named item r names harts at few below) text spelled.runs spelled.spelled)
    ∙ ap Ok (sym spelled.in_order)

-- what an item denotes is one hart's
there_too : (harts : ℕ) (item : List ℕ) (r other : Run) → NamesRun item r → NamesRun item other → r.choice.hart < harts → other.choice.hart < harts
there_too harts item r other n m below =
    let same : r.choice.hart ≡ other.choice.hart
    = sym n.value ∙ ap (digits_value 10) (sym (digits_named item r n) ∙ digits_named item other m) ∙ m.value in
    subst (λ h. h < harts) same below

-- an item that denotes no run, and one whose hart doesn't exist
pub no_run_read : (harts at : ℕ) (item : List ℕ) → harts < 2 ^ 32 → ((r : Run) → NamesRun item r → ⊥) → run_of harts at item ≡ Err (BadChoice at)
no_run_read harts at item few none =
    texts_decided.no_item_read NamesRun (λ r. r.choice.hart < harts) BadChoice NoHart (run_of harts) (item_told harts few) (there_too harts) at item none

pub no_hart_read : (harts at : ℕ) (item : List ℕ) (r : Run) → harts < 2 ^ 32 → NamesRun item r → (r.choice.hart < harts → ⊥)
    → run_of harts at item ≡ Err (NoHart at)
no_hart_read harts at item r few names absent =
    texts_decided.not_there_read NamesRun (λ r. r.choice.hart < harts) BadChoice NoHart (run_of harts) (item_told harts few) (there_too harts)
    at item r names absent

-- what spoils a text is read as its fault
pub choices_of-spoiled : (harts : ℕ) (text : List ℕ) (fault : ChoiceFault) → harts < 2 ^ 32 → SpoilsChoices harts 0 text fault
    → choices_read harts text ≡ Err fault
choices_of-spoiled harts text fault few spoiled =
    ap (expanded_after []) (texts_decided.values_of-spoiled NamesRun (λ r. r.choice.hart < harts) BadChoice NoHart (run_of harts)
    (item_told harts few) (there_too harts) named_plain named_some
    (λ at item r names below. run_named item r names harts at few below) text fault spoiled)

pub decided : (harts : ℕ) (text : List ℕ) → harts < 2 ^ 32 → SpellsOrSpoils (SpellsChoices harts text) (SpoilsChoices harts 0 text)
decided harts text few =
    texts_decided.decided (SpellsChoices harts text) (SpoilsChoices harts 0 text) (choices_read harts text)
    (λ choices. (λ e. spells_of harts text choices few e, λ spelled. choices_of-spelled harts text choices few spelled))
    (λ fault. (λ e. spoils_of harts text fault few e, λ spoiled. choices_of-spoiled harts text fault few spoiled))

-- ---- reading, item by item
expanded_after-then : (choices : List Choice) (r : Run) (more : Result (List Run) ChoiceFault)
    → expanded_after choices (value_then (Ok r) more) ≡ expanded_after (choices ++ equal_choices r) more
unfolding expanded_runs
expanded_after-then choices r (Ok more) = ap Ok (sym (append_assoc choices (equal_choices r) (expanded_runs more)))
expanded_after-then choices r (Err fault) = refl

module _ (harts from begin end : ℕ) (text : List ℕ) (old : List Choice) (at : IsFirstItem from text begin end)
    (so_far : choices_read harts text ≡ expanded_after old (values_named (run_of harts) (items_from from text))) where
  next : (r : Result Run ChoiceFault) → run_of harts begin (text_between begin end text) ≡ r
      → choices_read harts text ≡ expanded_after old (value_then r (values_named (run_of harts) (items_from end text)))
  next r e =
      so_far ∙ ap (λ items. expanded_after old (values_named (run_of harts) items)) at.first
      ∙ ap (λ r. expanded_after old (value_then r (values_named (run_of harts) (items_from end text)))) e

  pub goes_on : (r : Run) → run_of harts begin (text_between begin end text) ≡ Ok r
      → choices_read harts text ≡ expanded_after (old ++ equal_choices r) (values_named (run_of harts) (items_from end text))
  goes_on r e = next (Ok r) e ∙ expanded_after-then old r (values_named (run_of harts) (items_from end text))

  pub stops : (fault : ChoiceFault) → run_of harts begin (text_between begin end text) ≡ Err fault → choices_read harts text ≡ Err fault
  stops fault e = next (Err fault) e

-- reading has come to the end of a text
pub read_whole : (harts from : ℕ) (text : List ℕ) (choices : List Choice) → items_from from text ≡ []
    → choices_read harts text ≡ expanded_after choices (values_named (run_of harts) (items_from from text)) → choices_read harts text ≡ Ok choices
unfolding expanded_runs
read_whole harts from text choices none so_far =
    so_far ∙ ap (λ items. expanded_after choices (values_named (run_of harts) items)) none ∙ ap Ok (append-nil choices)
