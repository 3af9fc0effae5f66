-- Programs as texts of hexadecimal words.
use Rattle.std.specs.Prelude.{◌≡◌, ℕ, ◌<◌, ◌+◌, ◌-◌, ◌*◌, ◌==◌, ◌&&◌, nat_le, List, [], ◌∷◌, ◌++◌, length, Option, Some, None, if◌then◌else◌}
use Rattle.std.specs.declared.result.Result.{Result}
use Rattle.std.specs.declared.result.Result.TheVariants.{Ok, Err}
use Rattle.text_items.specs.Items.{Item, items_from}
use Rattle.program_open.specs.declared.hex.HexFault.{HexFault}
use Rattle.program_open.specs.declared.hex.HexFault.TheVariants.{BadWord, TooMany, Memory}

-- the greatest number of words
abbrev pub most_words : ℕ
most_words = 2048

-- the value of a hexadecimal digit of either case
abbrev pub hex_digit_of : ℕ → Option ℕ
hex_digit_of b = if nat_le 48 b && nat_le b 57 then Some (b - 48)
    else (if nat_le 65 b && nat_le b 70 then Some (b - 65 + 10)
    else (if nat_le 97 b && nat_le b 102 then Some (b - 97 + 10) else None))

-- the number of hexadecimal digits that follow those of n
abbrev pub hex_after : ℕ → List ℕ → Option ℕ
hex_after n [] = Some n
hex_after n (b ∷ bs) = elim (hex_digit_of b) [ None ↦ None | Some d ↦ hex_after (16 * n + d) bs ]

-- the word of eight hexadecimal digits
abbrev pub hex_word : List ℕ → Option ℕ
hex_word text = if length text == 8 then hex_after 0 text else None

-- these words, and then those of a result
abbrev pub words_before : List ℕ → Result (List ℕ) HexFault → Result (List ℕ) HexFault
words_before words (Ok more) = Ok (words ++ more)
words_before words (Err fault) = Err fault

-- a word and those that follow, or the fault of the item with this number
abbrev pub word_then : Option ℕ → ℕ → Result (List ℕ) HexFault → Result (List ℕ) HexFault
word_then None number rest = Err (BadWord number)
word_then (Some word) number rest = words_before (word ∷ []) rest

-- the words of items that are numbered from a number on, or the first fault
abbrev pub words_named : ℕ → List Item → Result (List ℕ) HexFault
words_named number [] = Ok []
words_named number (item ∷ items) = if number == most_words then Err (TooMany most_words)
    else word_then (hex_word item.text) number (words_named (number + 1) items)

-- the words of a text
abbrev pub hex_words : List ℕ → Result (List ℕ) HexFault
hex_words text = words_named 0 (items_from 0 text)

-- each of these items is the word beside it
abbrev pub AreHexWords : List Item → List ℕ → Type 0
AreHexWords [] [] = Unit {0}
AreHexWords [] (word ∷ words) = ⊥
AreHexWords (item ∷ items) [] = ⊥
AreHexWords (item ∷ items) (word ∷ words) = (hex_word item.text ≡ Some word) × AreHexWords items words

-- an item stands behind exactly so many words
pub record StandsBehind (count : ℕ) (item : Item) (items : List Item) : Type 0 where
  pub before : List Item
  pub behind : List Item
  pub split : items ≡ before ++ item ∷ behind
  pub words : List ℕ
  pub each : AreHexWords before words
  pub many : length words ≡ count

-- the first bad item: one of the first 2048 that is no word, or the one behind 2048 words
abbrev pub SpoilsWords : List Item → HexFault → Type 0
SpoilsWords items (BadWord n) = (n < 2048) × ((item : Item) × StandsBehind n item items × (hex_word item.text ≡ None))
SpoilsWords items (TooMany n) = (n ≡ 2048) × ((item : Item) × StandsBehind 2048 item items)
SpoilsWords items Memory = ⊥
