-- The texts of JSON's values that are neither strings nor made of others. RFC 8259, sections 3 and
-- 6.
use Rattle.std.specs.Prelude.{ℕ, Bool, true, false, List, codes, decimal, Option, Some, None}

-- a flag's word
unfoldable pub flag_text : Bool → List ℕ
flag_text true = codes "true"
flag_text false = codes "false"

-- a number in decimal, or `null` where there is none
unfoldable pub number_or_null : Option ℕ → List ℕ
number_or_null None = codes "null"
number_or_null (Some number) = decimal number
