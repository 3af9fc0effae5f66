-- What is printed spells its history.
use Rattle.std.proofs.Common.{◌≡◌, ℕ, ◌^◌, ◌<◌, List, refl, arith, sym, subst}
use Rattle.std.proofs.lemmas.Fmt.{decimal_is_IsNumeral}
use Rattle.std.specs.Fmt.{decimal}
use Rattle.std.specs.List.{All}
use Rattle.text_items.proofs.PrintLemmas.{decimal_is_number, text_spells}
use Rattle.history.specs.declared.entry.Entry.{Entry}
use Rattle.history.specs.Grammar.{NamesEntry, SpellsHistory}
use Rattle.history.specs.Printing.{entry_text, history_text}

-- the item of an entry names it
item_names : (e : Entry) → e.hart < 2 ^ 64 → e.local < 2 ^ 32 → NamesEntry (entry_text e) e
item_names e hart local = record {
  hart_digits = decimal e.hart;
  local_digits = decimal e.local;
  text = refl;
  hart_number = decimal_is_number e.hart hart;
  local_number = decimal_is_number e.local (omega (arith, local));
  hart = (decimal_is_IsNumeral e.hart hart).1;
  local = (decimal_is_IsNumeral e.local (omega (arith, local))).1;
  small = local;
}

-- a hart that is there, and a count of 32 bits
abbrev Fits : ℕ → Entry → Type 0
Fits harts e = (e.hart < harts) × (e.local < 2 ^ 32)

fits : (harts : ℕ) (entries : List Entry) → All (λ e. e.hart < harts) entries → All (λ e. e.local < 2 ^ 32) entries → All (Fits harts) entries
fits harts entries there small = λ k d inside. (there k d inside, small k d inside)

-- what is printed spells its history
pub history_spells : (harts : ℕ) (entries : List Entry) → harts < 2 ^ 32 → All (λ e. e.hart < harts) entries
    → All (λ e. e.local < 2 ^ 32) entries → SpellsHistory harts (history_text entries) entries
history_spells harts entries few there small =
    text_spells NamesEntry (λ e. e.hart < harts) (Fits harts) entry_text
    (λ e fit. item_names e (omega (arith, few, fit.0)) fit.1) entries there (fits harts entries there small)

pub spells_printed : (text : List ℕ) (entries : List Entry) → text ≡ history_text entries
    → (harts : ℕ) → harts < 2 ^ 32 → All (λ e. e.hart < harts) entries → All (λ e. e.local < 2 ^ 32) entries → SpellsHistory harts text entries
spells_printed text entries e harts few there small =
    subst (λ t. SpellsHistory harts t entries) (sym e) (history_spells harts entries few there small)
