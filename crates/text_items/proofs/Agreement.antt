-- Reading gives exactly what the grammar says, if it does so for each item.
use Rattle.std.proofs.Common.{◌≡◌, ℕ, ◌+◌, ◌<◌, ◌⊎◌, inl, inr, Bool, true, false, List, [], ◌∷◌, ◌++◌, length, Ok, Err, refl, arith, ap, sym, ◌∙◌, cond, append-nil, append_assoc, subst}
use Rattle.std.proofs.lemmas.List.Elements.{All-nil, All-cons, All-append}
use Rattle.std.specs.List.{All, slice_split, onto_first}
use Rattle.std.specs.declared.result.Result.{Result}
use Rattle.text_items.specs.Items.{is_blank, items_of_parts, items_from, text_between, IsFirstItem}
use Rattle.text_items.specs.Spelling.{is_end, Spells, Spoils}
use Rattle.text_items.specs.Reading.{value_then, followed_by, values_named, values_of}
use Rattle.text_items.proofs.ItemLemmas.{items_of_blank, items_of_item}

abbrev plain : ℕ → Type 0
plain b = is_blank b ≡ false

-- the meaning of an item's result
abbrev pub ItemTold : {A F : Type 0} → (List ℕ → A → Type 0) → (A → Type 0) → (ℕ → F) → (ℕ → F) → ℕ → List ℕ → Result A F → Type 0
ItemTold {A} {F} Names There malformed unknown at item (Ok value) = Names item value × There value
ItemTold {A} {F} Names There malformed unknown at item (Err fault) =
    ((fault ≡ malformed at) × ((value : A) → Names item value → ⊥))
    ⊎ ((fault ≡ unknown at) × ((value : A) × (Names item value) × (There value → ⊥)))

-- the meaning of a text's result
abbrev pub Told : {A F : Type 0} → (List ℕ → A → Type 0) → (A → Type 0) → (ℕ → F) → (ℕ → F) → ℕ → List ℕ → Result (List A) F → Type 0
Told Names There malformed unknown at text (Ok values) = Spells Names There text values
Told Names There malformed unknown at text (Err fault) = Spoils Names There malformed unknown at text fault

-- bytes before the first part belong to it
abbrev onto_part : List ℕ → List (List ℕ) → List (List ℕ)
onto_part front [] = front ∷ []
onto_part front (part ∷ parts) = (front ++ part) ∷ parts

onto_part-byte : (front : List ℕ) (b : ℕ) (parts : List (List ℕ)) → onto_part front (onto_first b parts) ≡ onto_part (front ++ b ∷ []) parts
onto_part-byte front b [] = refl
onto_part-byte front b (part ∷ parts) = ap (λ p. p ∷ parts) (sym (append_assoc front (b ∷ []) part))

onto_part-none : (at : ℕ) (parts : List (List ℕ)) → items_of_parts at (onto_part [] parts) ≡ items_of_parts at parts
onto_part-none at [] = refl
onto_part-none at (part ∷ parts) = refl

module _ {A F : Type 0} (Names : List ℕ → A → Type 0) (There : A → Type 0) (malformed unknown : ℕ → F) where
  -- an item that is bad
  bad_in_front : (at : ℕ) (item rest : List ℕ) (fault : F)
      → 0 < length item → All (λ b. is_blank b ≡ false) item → is_end rest ≡ true
      → ItemTold Names There malformed unknown at item (Err fault)
      → Spoils Names There malformed unknown at (item ++ rest) fault
  bad_in_front at item rest fault some plain end (inl told) =
      subst (Spoils Names There malformed unknown at (item ++ rest)) (sym told.0) (Spoils.no_item at item rest some plain end told.1)
  bad_in_front at item rest fault some plain end (inr told) =
      subst (Spoils Names There malformed unknown at (item ++ rest)) (sym told.0) (Spoils.not_there at item rest told.1.0 told.1.1 told.1.2 end)

  -- an item in front
  item_in_front : (at : ℕ) (item rest : List ℕ) (value : Result A F) (r : Result (List A) F)
      → 0 < length item → All (λ b. is_blank b ≡ false) item → is_end rest ≡ true
      → ItemTold Names There malformed unknown at item value
      → Told Names There malformed unknown (at + length item) rest r
      → Told Names There malformed unknown at (item ++ rest) (value_then value r)
  item_in_front at item rest (Ok value) (Ok values) some plain end told more =
      Spells.item item rest value values told.0 told.1 end more
  item_in_front at item rest (Ok value) (Err fault) some plain end told more =
      Spoils.item at item rest value fault told.0 told.1 end more
  item_in_front at item rest (Err fault) r some plain end told more =
      bad_in_front at item rest fault some plain end told

  -- a blank in front
  blank_in_front : (at b : ℕ) (text : List ℕ) (r : Result (List A) F) → is_blank b ≡ true
      → Told Names There malformed unknown (at + 1) text r → Told Names There malformed unknown at (b ∷ text) r
  blank_in_front at b text (Ok values) h more = Spells.blank b text values h more
  blank_in_front at b text (Err fault) h more = Spoils.blank at b text fault h more

  module _ (read : ℕ → List ℕ → Result A F)
      (item_told : (at : ℕ) (item : List ℕ) → ItemTold Names There malformed unknown at item (read at item)) where
    -- a part in front, which may be empty
    part_in_front : (at : ℕ) (part rest : List ℕ) (parts : List (List ℕ))
        → All (λ b. is_blank b ≡ false) part → is_end rest ≡ true
        → Told Names There malformed unknown (at + length part) rest (values_named read (items_of_parts (at + (length part + 1)) parts))
        → Told Names There malformed unknown at (part ++ rest) (values_named read (items_of_parts at (part ∷ parts)))
    part_in_front at [] rest parts plain end told =
        let near : at + 0 ≡ at = omega arith in
        subst (λ k. Told Names There malformed unknown k rest (values_named read (items_of_parts (at + 1) parts))) near told
    part_in_front at (b ∷ bs) rest parts plain end told =
        item_in_front at (b ∷ bs) rest (read at (b ∷ bs)) _ (omega arith) plain end (item_told at (b ∷ bs)) told

    -- the meaning for a text after bytes without blanks
    told_after : (front text : List ℕ) (at : ℕ) → All (λ b. is_blank b ≡ false) front
        → Told Names There malformed unknown at (front ++ text) (values_named read (items_of_parts at (onto_part front (slice_split is_blank text))))
    told_after front [] at plain =
        subst (λ f. Told Names There malformed unknown at (front ++ []) (values_named read (items_of_parts at (f ∷ [])))) (sym (append-nil front))
        (part_in_front at front [] [] plain refl Spells.nothing)
    told_after front (b ∷ bs) at plain =
        by (is_blank b) refl (told_after [] bs (at + length front + 1) (All-nil (λ b. is_blank b ≡ false))) (λ p. told_after (front ++ b ∷ []) bs at p)
      where
        by : (c : Bool) → is_blank b ≡ c
            → Told Names There malformed unknown (at + length front + 1) bs (values_named read (items_of_parts (at + length front + 1) (onto_part [] (slice_split is_blank bs))))
            → (All (λ b. is_blank b ≡ false) (front ++ b ∷ []) → Told Names There malformed unknown at ((front ++ b ∷ []) ++ bs) (values_named read (items_of_parts at (onto_part (front ++ b ∷ []) (slice_split is_blank bs)))))
            → Told Names There malformed unknown at (front ++ b ∷ bs) (values_named read (items_of_parts at (onto_part front (cond c ([] ∷ slice_split is_blank bs) (onto_first b (slice_split is_blank bs))))))
        by true h blank byte =
            let ps = slice_split is_blank bs in
            let far : at + length front + 1 ≡ at + (length front + 1) = omega arith in
            let rest : Told Names There malformed unknown (at + length front + 1) bs (values_named read (items_of_parts (at + (length front + 1)) ps))
            = subst (λ items. Told Names There malformed unknown (at + length front + 1) bs (values_named read items)) (onto_part-none (at + length front + 1) ps ∙ ap (λ k. items_of_parts k ps) far) blank in
            subst (λ f. Told Names There malformed unknown at (front ++ b ∷ bs) (values_named read (items_of_parts at (f ∷ ps)))) (sym (append-nil front))
            (part_in_front at front (b ∷ bs) ps plain h (blank_in_front (at + length front) b bs (values_named read (items_of_parts (at + (length front + 1)) ps)) h rest))
        by false h blank byte =
            let ps = slice_split is_blank bs in
            subst (λ xs. Told Names There malformed unknown at xs (values_named read (items_of_parts at (onto_part front (onto_first b ps))))) (append_assoc front (b ∷ []) bs)
            (subst (λ parts. Told Names There malformed unknown at ((front ++ b ∷ []) ++ bs) (values_named read (items_of_parts at parts))) (sym (onto_part-byte front b ps))
            (byte (All-append (λ b. is_blank b ≡ false) front (b ∷ []) plain (All-cons (λ b. is_blank b ≡ false) b [] h (All-nil (λ b. is_blank b ≡ false))))))

    -- the result for each text has its meaning
    pub told : (text : List ℕ) → Told Names There malformed unknown 0 text (values_of read text)
    told text =
        subst (λ items. Told Names There malformed unknown 0 text (values_named read items)) (onto_part-none 0 (slice_split is_blank text))
        (told_after [] text 0 (All-nil (λ b. is_blank b ≡ false)))

    pub spells_of : (text : List ℕ) (values : List A) → values_of read text ≡ Ok values → Spells Names There text values
    spells_of text values e = subst (Told Names There malformed unknown 0 text) e (told text)

    pub spoils_of : (text : List ℕ) (fault : F) → values_of read text ≡ Err fault → Spoils Names There malformed unknown 0 text fault
    spoils_of text fault e = subst (Told Names There malformed unknown 0 text) e (told text)

-- the values of a text that is read exist
pub all_there : {A : Type 0} (Names : List ℕ → A → Type 0) (There : A → Type 0) (text : List ℕ) (values : List A)
    → Spells Names There text values → All There values
all_there Names There _ _ Spells.nothing = All-nil There
all_there Names There _ _ (Spells.blank b text values h more) = all_there Names There text values more
all_there Names There _ _ (Spells.item text rest value values names there end more) =
    All-cons There value values there (all_there Names There rest values more)

module _ {A F : Type 0} (Names : List ℕ → A → Type 0) (There : A → Type 0) (read : ℕ → List ℕ → Result A F)
    (no_blank : (item : List ℕ) (value : A) → Names item value → All (λ b. is_blank b ≡ false) item)
    (some_byte : (item : List ℕ) (value : A) → Names item value → 0 < length item)
    (named : (at : ℕ) (item : List ℕ) (value : A) → Names item value → There value → read at item ≡ Ok value) where
  -- what a text spells is read
  spelled_from : (text : List ℕ) (values : List A) (at : ℕ) → Spells Names There text values
      → values_named read (items_of_parts at (slice_split is_blank text)) ≡ Ok values
  spelled_from _ _ at Spells.nothing = refl
  spelled_from _ _ at (Spells.blank b text values h more) =
      ap (values_named read) (items_of_blank at b text h) ∙ spelled_from text values (at + 1) more
  spelled_from _ _ at (Spells.item text rest value values names there end more) =
      ap (values_named read) (items_of_item at text rest (some_byte text value names) (no_blank text value names) end)
      ∙ ap (λ v. value_then v (values_named read (items_of_parts (at + length text) (slice_split is_blank rest)))) (named at text value names there)
      ∙ ap (followed_by (value ∷ [])) (spelled_from rest values (at + length text) more)

  pub values_of-spelled : (text : List ℕ) (values : List A) → Spells Names There text values → values_of read text ≡ Ok values
  values_of-spelled text values spelled = spelled_from text values 0 spelled

followed_by-more : {A F : Type 0} (values : List A) (value : A) (r : Result (List A) F)
    → followed_by values (followed_by (value ∷ []) r) ≡ followed_by (values ++ value ∷ []) r
followed_by-more values value (Ok more) = ap Ok (sym (append_assoc values (value ∷ []) more))
followed_by-more values value (Err fault) = refl

-- reading has come so far in a text
module _ {A F : Type 0} (read : ℕ → List ℕ → Result A F) (from begin end : ℕ) (text : List ℕ) (old : List A)
    (at : IsFirstItem from text begin end)
    (so_far : values_of read text ≡ followed_by old (values_named read (items_from from text))) where
  next : (r : Result A F) → read begin (text_between begin end text) ≡ r
      → values_of read text ≡ followed_by old (value_then r (values_named read (items_from end text)))
  next r e =
      so_far ∙ ap (λ items. followed_by old (values_named read items)) at.first
      ∙ ap (λ value. followed_by old (value_then value (values_named read (items_from end text)))) e

  pub goes_on : (value : A) → read begin (text_between begin end text) ≡ Ok value
      → values_of read text ≡ followed_by (old ++ value ∷ []) (values_named read (items_from end text))
  goes_on value e = next (Ok value) e ∙ followed_by-more old value (values_named read (items_from end text))

  pub stops : (fault : F) → read begin (text_between begin end text) ≡ Err fault → values_of read text ≡ Err fault
  stops fault e = next (Err fault) e

-- reading has come to the end of a text
pub read_whole : {A F : Type 0} (read : ℕ → List ℕ → Result A F) (from : ℕ) (text : List ℕ) (values : List A) → items_from from text ≡ []
    → values_of read text ≡ followed_by values (values_named read (items_from from text)) → values_of read text ≡ Ok values
read_whole read from text values none so_far =
    so_far ∙ ap (λ items. followed_by values (values_named read items)) none ∙ ap Ok (append-nil values)
