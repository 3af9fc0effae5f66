-- The texts of properties.
use Rattle.std.specs.Prelude.{ℕ, ◌+◌, ◌-◌, ◌^◌, ◌%◌, ◌==◌, ◌&&◌, ◌||◌, nat_le, nat_lt, not, List, [], ◌∷◌, length, take, drop, slice_index, codes, Option, Some, None, Result, Ok, Err, if◌then◌else◌}
use Rattle.std.specs.Str.{bytes_eq}
use Rattle.elf_read.specs.Symbol.{SymbolValue}
use Rattle.debug_text.specs.Words.{next_word, behind_word}
use Rattle.debug_text.specs.Numbers.{decimal_of, read_address}
use Rattle.debug_text.specs.Addresses.{NumberRead, address_meant}
use Rattle.debug_text.specs.declared.fault.DebugFault.{DebugFault}
use Rattle.debug_text.specs.declared.fault.DebugFault.TheVariants as line
use Rattle.property_judge.specs.declared.property.Order.TheVariants.{Less, AtMost, Greater, AtLeast}
use Rattle.property_judge.specs.declared.property.Comparison.{Comparison}
use Rattle.property_judge.specs.declared.property.Comparison.TheVariants.{Equal, Unequal, Signed, Unsigned}
use Rattle.property_judge.specs.declared.property.Property.{Property}
use Rattle.property_judge.specs.declared.property.Property.TheVariants.{Always, NeverBoth}
use Rattle.property_text.specs.declared.fault.PropertyFault.{PropertyFault}
use Rattle.property_text.specs.declared.fault.PropertyFault.TheVariants as fault

-- an address, or why there is none
abbrev pub PlaceRead : Type 0
PlaceRead = Result ℕ PropertyFault

-- a property, or why a text says none
abbrev pub PropertyRead : Type 0
PropertyRead = Result Property PropertyFault

-- why a text is no address
abbrev pub fault_of_address : DebugFault → PropertyFault
fault_of_address line.NoSymbol = fault.NoSymbol
fault_of_address line.SeveralSymbols = fault.SeveralSymbols
fault_of_address why = fault.BadAddress

-- an address as the debugger's lines have it
abbrev pub place_meant : List SymbolValue → List ℕ → PlaceRead
place_meant symbols text = place_of (address_meant symbols text)
  where
    place_of : NumberRead → PlaceRead
    place_of (Ok address) = Ok address
    place_of (Err why) = Err (fault_of_address why)

-- the address of a word: a multiple of 4
abbrev pub word_meant : List SymbolValue → List ℕ → PlaceRead
word_meant symbols text = word_at (place_meant symbols text)
  where
    word_at : PlaceRead → PlaceRead
    word_at (Ok address) = if address % 4 == 0 then Ok address else Err fault.Misaligned
    word_at (Err why) = Err why

-- the comparison that a text names; those with a `u` are of unsigned numbers
abbrev pub comparison_of : List ℕ → Option Comparison
comparison_of text =
    if bytes_eq text (codes "==") then Some Equal
    else (if bytes_eq text (codes "!=") then Some Unequal
    else (if bytes_eq text (codes "<") then Some (Signed Less)
    else (if bytes_eq text (codes "<=") then Some (Signed AtMost)
    else (if bytes_eq text (codes ">") then Some (Signed Greater)
    else (if bytes_eq text (codes ">=") then Some (Signed AtLeast)
    else (if bytes_eq text (codes "<u") then Some (Unsigned Less)
    else (if bytes_eq text (codes "<=u") then Some (Unsigned AtMost)
    else (if bytes_eq text (codes ">u") then Some (Unsigned Greater)
    else (if bytes_eq text (codes ">=u") then Some (Unsigned AtLeast)
    else None)))))))))

-- the word of a negative number with these digits, from -2^31 on
abbrev pub negative : List ℕ → Option ℕ
negative digits = word_of (decimal_of digits)
  where
    word_of : Option ℕ → Option ℕ
    word_of None = None
    word_of (Some n) = if nat_le n (2 ^ 31) then Some ((2 ^ 32 - n) % 2 ^ 32) else None

-- the word of a number: 45 is `-`
abbrev pub number_meant : List ℕ → Option ℕ
number_meant text = if slice_index text 0 == 45 then negative (drop 1 text) else read_address text

-- a property of a word by its parts; the fault of the first bad one
abbrev pub always_parts : PlaceRead → Option Comparison → Option ℕ → PropertyRead
always_parts (Err why) comparison number = Err why
always_parts (Ok word) None number = Err fault.BadComparison
always_parts (Ok word) (Some comparison) None = Err fault.BadNumber
always_parts (Ok word) (Some comparison) (Some number) = Ok (Always word comparison number)

-- the property of three words
abbrev pub always_by : List SymbolValue → List ℕ → List ℕ → List ℕ → PropertyRead
always_by symbols word comparison number =
    always_parts (word_meant symbols word) (comparison_of comparison) (number_meant number)

-- the property of a text `WORD OP NUMBER`, whose words are separated by spaces
unfoldable pub always_of : List SymbolValue → List ℕ → PropertyRead
always_of symbols text =
    let rest = behind_word text in
    let rest_2 = behind_word rest in
    if length (next_word rest_2) == 0 || not (length (next_word (behind_word rest_2)) == 0) then Err fault.BadProperty
    else always_by symbols (next_word text) (next_word rest) (next_word rest_2)

-- the place of the first `..` (46 is `.`) in a text that begins at place k
abbrev pub dots_from : ℕ → List ℕ → Option ℕ
dots_from k [] = None
dots_from k (b ∷ bs) = if b == 46 && slice_index bs 0 == 46 then Some k else dots_from (k + 1) bs

-- a range by its ends, of which the second is excluded; the fault of the first bad one
abbrev pub never_both_parts : PlaceRead → PlaceRead → PropertyRead
never_both_parts (Err why) to = Err why
never_both_parts (Ok from) (Err why) = Err why
never_both_parts (Ok from) (Ok to) = if nat_lt from to then Ok (NeverBoth from to) else Err fault.EmptyRange

-- the property of two addresses
abbrev pub never_both_split : List SymbolValue → List ℕ → List ℕ → PropertyRead
never_both_split symbols from to = never_both_parts (place_meant symbols from) (place_meant symbols to)

-- the property of a text `A..B`
unfoldable pub never_both_of : List SymbolValue → List ℕ → PropertyRead
never_both_of symbols text = split_at (dots_from 0 text)
  where
    split_at : Option ℕ → PropertyRead
    split_at None = Err fault.BadRange
    split_at (Some at) = never_both_split symbols (take at text) (drop (at + 2) text)
