-- The grammar of texts of items: which texts spell a list of values, and which item spoils a text.
-- What an item denotes, and which values exist, is a parameter for each kind of text.
use Rattle.std.specs.Prelude.{◌≡◌, ℕ, ◌+◌, ◌<◌, ◌⊎◌, Bool, true, false, List, [], ◌∷◌, ◌++◌, length}
use Rattle.std.specs.List.{All}
use Rattle.text_items.specs.Items.{is_blank}

-- an item may end before this rest of a text: at the text's end, or at a blank
abbrev pub is_end : List ℕ → Bool
is_end [] = true
is_end (b ∷ rest) = is_blank b

-- items with blanks between and around them, which denote these values, all of which exist
pub data Spells {A : Type 0} (Names : List ℕ → A → Type 0) (There : A → Type 0) : List ℕ → List A → Type 0 where
  nothing : Spells Names There [] []
  blank : (b : ℕ) (text : List ℕ) (values : List A) → is_blank b ≡ true
      → Spells Names There text values → Spells Names There (b ∷ text) values
  item : (text rest : List ℕ) (value : A) (values : List A)
      → Names text value → There value → is_end rest ≡ true
      → Spells Names There rest values → Spells Names There (text ++ rest) (value ∷ values)

-- the text, which begins at an offset, has a bad item after good ones only: one that denotes
-- nothing, or one whose value doesn't exist
pub data Spoils {A F : Type 0} (Names : List ℕ → A → Type 0) (There : A → Type 0) (malformed unknown : ℕ → F)
    : ℕ → List ℕ → F → Type 0 where
  blank : (at b : ℕ) (text : List ℕ) (fault : F) → is_blank b ≡ true
      → Spoils Names There malformed unknown (at + 1) text fault
      → Spoils Names There malformed unknown at (b ∷ text) fault
  item : (at : ℕ) (text rest : List ℕ) (value : A) (fault : F)
      → Names text value → There value → is_end rest ≡ true
      → Spoils Names There malformed unknown (at + length text) rest fault
      → Spoils Names There malformed unknown at (text ++ rest) fault
  no_item : (at : ℕ) (text rest : List ℕ) → 0 < length text → All (λ b. is_blank b ≡ false) text
      → is_end rest ≡ true → ((value : A) → Names text value → ⊥)
      → Spoils Names There malformed unknown at (text ++ rest) (malformed at)
  not_there : (at : ℕ) (text rest : List ℕ) (value : A)
      → Names text value → (There value → ⊥) → is_end rest ≡ true
      → Spoils Names There malformed unknown at (text ++ rest) (unknown at)

-- a text spells a value, the only one, or has a fault, the only one, and never both
pub record SpellsOrSpoils {V F : Type 0} (Spelled : V → Type 0) (Spoiled : F → Type 0) : Type 0 where
  pub either : ((value : V) × Spelled value) ⊎ ((fault : F) × Spoiled fault)
  pub one_value : (value other : V) → Spelled value → Spelled other → value ≡ other
  pub one_fault : (fault other : F) → Spoiled fault → Spoiled other → fault ≡ other
  pub not_both : (value : V) (fault : F) → Spelled value → Spoiled fault → ⊥
