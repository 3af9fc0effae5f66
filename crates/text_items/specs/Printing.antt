-- Texts of items as they are printed.
use Rattle.std.specs.Prelude.{ℕ, List, [], ◌∷◌, ◌++◌}

-- the text after an item: a space before each further item, and LF at the end
abbrev pub after_item : {A : Type 0} → (A → List ℕ) → List A → List ℕ
after_item item_text [] = 10 ∷ []
after_item item_text (value ∷ values) = 32 ∷ (item_text value ++ after_item item_text values)

-- one space between items, LF at the end, and nothing for no values
abbrev pub text_of : {A : Type 0} → (A → List ℕ) → List A → List ℕ
text_of item_text [] = []
text_of item_text (value ∷ values) = item_text value ++ after_item item_text values
