-- The grammar of history texts: which texts spell a history, and which item spoils a text.
-- `Reading` computes the same; `proofs/Agreement.antt` proves that the two agree.
use Rattle.std.specs.Prelude.{◌≡◌, ℕ, ◌<◌, ◌^◌, List, ◌∷◌, ◌++◌}
use Rattle.std.specs.Str.Parse.{digits_value}
use Rattle.text_items.specs.Numbers.{IsNumber, mark_of}
use Rattle.text_items.specs.Spelling as texts
use Rattle.history.specs.declared.entry.Entry.{Entry}
use Rattle.history.specs.declared.history_text.HistoryFault.{HistoryFault}
use Rattle.history.specs.declared.history_text.HistoryFault.TheVariants.{BadEntry, NoHart}

-- the item is a hart's number, `+`, a number of 32 bits, and the mark, if there is one
pub record NamesEntry (item : List ℕ) (e : Entry) : Type 0 where
  pub hart_digits : List ℕ
  pub local_digits : List ℕ
  pub text : item ≡ hart_digits ++ 43 ∷ (local_digits ++ mark_of e.refuse)
  pub hart_number : IsNumber hart_digits
  pub local_number : IsNumber local_digits
  pub hart : digits_value 10 hart_digits ≡ e.hart
  pub local : digits_value 10 local_digits ≡ e.local
  pub small : e.local < 2 ^ 32

-- items with blanks between and around them, which denote these entries of the harts
abbrev pub SpellsHistory : ℕ → List ℕ → List Entry → Type 0
SpellsHistory harts text entries = texts.Spells NamesEntry (λ e. e.hart < harts) text entries

-- the text, which begins at an offset, has a bad item after good ones only: one that denotes no
-- entry, or an entry of a hart that doesn't exist
abbrev pub SpoilsHistory : ℕ → ℕ → List ℕ → HistoryFault → Type 0
SpoilsHistory harts at text fault = texts.Spoils NamesEntry (λ e. e.hart < harts) BadEntry NoHart at text fault
