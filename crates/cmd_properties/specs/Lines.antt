-- The printed lines of properties.
use Rattle.std.specs.Prelude.{ℕ, List, [], ◌∷◌, ◌++◌, codes, Option, Some, None}
use Rattle.std.specs.Fmt.{decimal}
use Rattle.isa_names.specs.Digits.{word_text}
use Rattle.property_judge.specs.declared.judged.Judged.{Judged}
use Rattle.property_judge.specs.declared.property.Order.{Order}
use Rattle.property_judge.specs.declared.property.Order.TheVariants.{Less, AtMost, Greater, AtLeast}
use Rattle.property_judge.specs.declared.property.Comparison.{Comparison}
use Rattle.property_judge.specs.declared.property.Comparison.TheVariants.{Equal, Unequal, Signed, Unsigned}
use Rattle.property_judge.specs.declared.property.Property.{Property}
use Rattle.property_judge.specs.declared.property.Property.TheVariants.{Always, NeverBoth}

-- an order, as it is written for signed numbers
abbrev pub order_name : Order → List ℕ
order_name Less = codes "<"
order_name AtMost = codes "<="
order_name Greater = codes ">"
order_name AtLeast = codes ">="

-- a comparison, as it is written; 117 is `u`
abbrev pub comparison_name : Comparison → List ℕ
comparison_name Equal = codes "=="
comparison_name Unequal = codes "!="
comparison_name (Signed order) = order_name order
comparison_name (Unsigned order) = order_name order ++ 117 ∷ []

-- a property, with its addresses and its number as words of eight hexadecimal digits; 32 is a space
abbrev pub property_text : Property → List ℕ
property_text (Always word comparison number) =
    codes "always " ++ (word_text word ++ 32 ∷ (comparison_name comparison ++ 32 ∷ word_text number))
property_text (NeverBoth from to) = codes "never-both " ++ (word_text from ++ (codes ".." ++ word_text to))

-- whether it was kept, or after how many choices it was broken
abbrev pub broken_text : Option ℕ → List ℕ
broken_text None = codes " kept"
broken_text (Some choices) = codes " broken after " ++ decimal choices

-- a property's line, without LF
abbrev pub judged_line : Judged → List ℕ
judged_line judged = property_text judged.property ++ broken_text judged.broken

-- the lines of properties, each ended by LF
abbrev pub judged_lines : List Judged → List ℕ
judged_lines [] = []
judged_lines (judged ∷ more) = judged_line judged ++ 10 ∷ judged_lines more
