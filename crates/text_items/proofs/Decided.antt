-- What spoils a text is read as its fault, and each text is spelled or spoiled.
use Rattle.std.proofs.Common.{◌≡◌, ℕ, ◌+◌, ◌<◌, ◌⊎◌, inl, inr, false, List, [], ◌∷◌, length, Ok, Err, refl, ap, sym, ◌∙◌}
use Rattle.std.specs.Prelude.{◌↔◌}
use Rattle.std.specs.List.{All, slice_split}
use Rattle.std.specs.declared.result.Result.{Result}
use Rattle.text_items.specs.Items.{is_blank, items_of_parts}
use Rattle.text_items.specs.Spelling.{Spoils, SpellsOrSpoils}
use Rattle.text_items.specs.Reading.{value_then, followed_by, values_named, values_of}
use Rattle.text_items.proofs.ItemLemmas.{items_of_blank, items_of_item}
use Rattle.text_items.proofs.Agreement.{ItemTold}

module _ {A F : Type 0} (Names : List ℕ → A → Type 0) (There : A → Type 0) (malformed unknown : ℕ → F) (read : ℕ → List ℕ → Result A F)
    (item_told : (at : ℕ) (item : List ℕ) → ItemTold Names There malformed unknown at item (read at item))
    (there_too : (item : List ℕ) (value other : A) → Names item value → Names item other → There value → There other) where
  -- an item that denotes nothing
  pub no_item_read : (at : ℕ) (item : List ℕ) → ((value : A) → Names item value → ⊥) → read at item ≡ Err (malformed at)
  no_item_read at item none = by (read at item) (item_told at item)
    where
      by : (r : Result A F) → ItemTold Names There malformed unknown at item r → r ≡ Err (malformed at)
      by (Ok value) told = absurd (none value told.0)
      by (Err fault) (inl told) = ap Err told.0
      by (Err fault) (inr told) = absurd (none told.1.0 told.1.1)

  -- an item whose value doesn't exist
  pub not_there_read : (at : ℕ) (item : List ℕ) (value : A) → Names item value → (There value → ⊥) → read at item ≡ Err (unknown at)
  not_there_read at item value names absent = by (read at item) (item_told at item)
    where
      by : (r : Result A F) → ItemTold Names There malformed unknown at item r → r ≡ Err (unknown at)
      by (Ok other) told = absurd (absent (there_too item other value told.0 names told.1))
      by (Err fault) (inl told) = absurd (told.1 value names)
      by (Err fault) (inr told) = ap Err told.0

  module _ (no_blank : (item : List ℕ) (value : A) → Names item value → All (λ b. is_blank b ≡ false) item)
      (some_byte : (item : List ℕ) (value : A) → Names item value → 0 < length item)
      (named : (at : ℕ) (item : List ℕ) (value : A) → Names item value → There value → read at item ≡ Ok value) where
    -- what spoils a text is read as its fault
    spoiled_from : (at : ℕ) (text : List ℕ) (fault : F) → Spoils Names There malformed unknown at text fault
        → values_named read (items_of_parts at (slice_split is_blank text)) ≡ Err fault
    spoiled_from _ _ _ (Spoils.blank at b text fault h more) =
        ap (values_named read) (items_of_blank at b text h) ∙ spoiled_from (at + 1) text fault more
    spoiled_from _ _ _ (Spoils.item at text rest value fault names there end more) =
        ap (values_named read) (items_of_item at text rest (some_byte text value names) (no_blank text value names) end)
        ∙ ap (λ v. value_then v (values_named read (items_of_parts (at + length text) (slice_split is_blank rest)))) (named at text value names there)
        ∙ ap (followed_by (value ∷ [])) (spoiled_from (at + length text) rest fault more)
    spoiled_from _ _ _ (Spoils.no_item at text rest some plain end none) =
        ap (values_named read) (items_of_item at text rest some plain end)
        ∙ ap (λ v. value_then v (values_named read (items_of_parts (at + length text) (slice_split is_blank rest)))) (no_item_read at text none)
    spoiled_from _ _ _ (Spoils.not_there at text rest value names absent end) =
        ap (values_named read) (items_of_item at text rest (some_byte text value names) (no_blank text value names) end)
        ∙ ap (λ v. value_then v (values_named read (items_of_parts (at + length text) (slice_split is_blank rest)))) (not_there_read at text value names absent)

    pub values_of-spoiled : (text : List ℕ) (fault : F) → Spoils Names There malformed unknown 0 text fault → values_of read text ≡ Err fault
    values_of-spoiled text fault spoiled = spoiled_from 0 text fault spoiled

-- what is read exactly as it is spelled or spoiled is one of both
module _ {V F : Type 0} (Spelled : V → Type 0) (Spoiled : F → Type 0) (read : Result V F)
    (ok : (value : V) → (read ≡ Ok value) ↔ Spelled value) (err : (fault : F) → (read ≡ Err fault) ↔ Spoiled fault) where
  one_of_both : (r : Result V F) → read ≡ r → ((value : V) × Spelled value) ⊎ ((fault : F) × Spoiled fault)
  one_of_both (Ok value) e = inl (value, (ok value).0 e)
  one_of_both (Err fault) e = inr (fault, (err fault).0 e)

  pub decided : SpellsOrSpoils Spelled Spoiled
  decided = record {
    either = one_of_both read refl;
    one_value = λ value other one two. let e = sym ((ok value).1 one) ∙ (ok other).1 two in cc;
    one_fault = λ fault other one two. let e = sym ((err fault).1 one) ∙ (err other).1 two in cc;
    not_both = λ value fault one two. let e = sym ((ok value).1 one) ∙ (err fault).1 two in absurd (cc);
  }
