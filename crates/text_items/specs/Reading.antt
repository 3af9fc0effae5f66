-- Texts of items as they are read: item by item, up to the first bad one.
use Rattle.std.specs.Prelude.{ℕ, List, [], ◌∷◌, ◌++◌}
use Rattle.std.specs.declared.result.Result.{Result}
use Rattle.std.specs.declared.result.Result.TheVariants.{Ok, Err}
use Rattle.text_items.specs.Items.{Item, items_from}

-- these values, and then those of a result
abbrev pub followed_by : {A F : Type 0} → List A → Result (List A) F → Result (List A) F
followed_by values (Ok more) = Ok (values ++ more)
followed_by values (Err fault) = Err fault

-- a value and those that follow, or the first fault
abbrev pub value_then : {A F : Type 0} → Result A F → Result (List A) F → Result (List A) F
value_then (Ok value) rest = followed_by (value ∷ []) rest
value_then (Err fault) rest = Err fault

-- the values that items denote, or the first bad item's fault; an item is its offset and bytes
abbrev pub values_named : {A F : Type 0} → (ℕ → List ℕ → Result A F) → List Item → Result (List A) F
values_named read [] = Ok []
values_named read (item ∷ items) = value_then (read item.at item.text) (values_named read items)

-- the values of a text
abbrev pub values_of : {A F : Type 0} → (ℕ → List ℕ → Result A F) → List ℕ → Result (List A) F
values_of read text = values_named read (items_from 0 text)
