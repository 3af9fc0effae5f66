-- The items of choices, as text.
use Rattle.std.proofs.Common.{◌≡◌, ℕ, true, false, List, [], ◌∷◌, ◌++◌, refl, ap, ap₂, sym}
use Rattle.std.specs.Fmt.{decimal, digits}
use Rattle.machine.specs.declared.choice.Choice.{Choice}
use Rattle.text_items.specs.Numbers.{mark_of}
use Rattle.history.specs.Printing.{entry_text}
use Rattle.history.specs.Plain.{plain_entry}

zero_text : decimal 0 ≡ 48 ∷ []
unfolding digits
zero_text = refl

pub refused_text : (c : Choice) → c.refuse ≡ true → decimal c.hart ++ 43 ∷ 48 ∷ 33 ∷ [] ≡ entry_text (plain_entry c)
refused_text c refused = ap₂ (λ (zero mark : List ℕ). decimal c.hart ++ 43 ∷ (zero ++ mark)) (sym zero_text) (ap mark_of (sym refused))

pub plain_text : (c : Choice) → c.refuse ≡ false → decimal c.hart ++ 43 ∷ 48 ∷ [] ≡ entry_text (plain_entry c)
plain_text c plain = ap₂ (λ (zero mark : List ℕ). decimal c.hart ++ 43 ∷ (zero ++ mark)) (sym zero_text) (ap mark_of (sym plain))
