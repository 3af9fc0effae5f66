-- Addresses in commands: numbers, and symbols with or without an offset.
use Rattle.std.specs.Prelude.{ℕ, ◌+◌, ◌-◌, ◌^◌, ◌==◌, ◌||◌, ◌&&◌, nat_lt, not, Bool, false, List, [], ◌∷◌, length, take, drop, Option, Some, None, Result, Ok, Err, if◌then◌else◌}
use Rattle.std.specs.Option.{option_map}
use Rattle.std.specs.List.{find, list_any, suffix_len}
use Rattle.std.specs.Str.{bytes_eq}
use Rattle.elf_read.specs.Symbol.{SymbolValue}
use Rattle.debug_text.specs.Numbers.{is_between, read_address}
use Rattle.debug_text.specs.declared.fault.DebugFault.{DebugFault}
use Rattle.debug_text.specs.declared.fault.DebugFault.TheVariants.{BadCommand, NoSymbol, SeveralSymbols}

-- a number of a line, or why it is none
abbrev pub NumberRead : Type 0
NumberRead = Result ℕ DebugFault

-- a number, or `bad command` in its place
abbrev pub or_bad : Option ℕ → NumberRead
or_bad None = Err BadCommand
or_bad (Some n) = Ok n

-- whether a symbol has a name
abbrev pub is_named : List ℕ → SymbolValue → Bool
is_named name symbol = bytes_eq symbol.name name

-- whether it has this name and another address
abbrev pub is_elsewhere : List ℕ → ℕ → SymbolValue → Bool
is_elsewhere name address symbol = is_named name symbol && not (symbol.address == address)

-- the address of the first symbol of a name
abbrev pub first_address : List SymbolValue → List ℕ → Option ℕ
first_address symbols name = option_map (λ (symbol : SymbolValue). symbol.address) (find (is_named name) symbols)

-- this address, if no symbol of the name has another one
abbrev pub one_address : List SymbolValue → List ℕ → Option ℕ → NumberRead
one_address symbols name None = Err NoSymbol
one_address symbols name (Some address) =
    if list_any (is_elsewhere name address) symbols then Err SeveralSymbols else Ok address

-- the address that all symbols of a name have
unfoldable pub address_of_name : List SymbolValue → List ℕ → NumberRead
address_of_name symbols name = one_address symbols name (first_address symbols name)

-- whether a byte is not the `+` in front of an offset
abbrev pub is_no_plus : ℕ → Bool
is_no_plus b = not (b == 43)

-- an address with an offset, below 2^32
abbrev pub with_offset : Option ℕ → NumberRead → NumberRead
with_offset None base = Err BadCommand
with_offset (Some offset) (Err why) = Err why
with_offset (Some offset) (Ok address) =
    if nat_lt (address + offset) (2 ^ 32) then Ok (address + offset) else Err BadCommand

-- the address of NAME, or of NAME+N, whose N begins at `end`; it is 0 if there is none
abbrev pub address_split : List SymbolValue → List ℕ → ℕ → NumberRead
address_split symbols text end =
    if end == 0 then address_of_name symbols text
    else with_offset (read_address (drop end text)) (address_of_name symbols (take (end - 1) text))

-- whether a text may begin with a symbol's name: it begins with neither a digit nor a sign
abbrev pub may_be_name : List ℕ → Bool
may_be_name [] = false
may_be_name (b ∷ bs) = not (is_between 48 57 b || b == 43 || b == 45)

-- the address of a text that is no number; a program without symbols has no names
abbrev pub named_address : List SymbolValue → List ℕ → NumberRead
named_address symbols text =
    if length symbols == 0 || not (may_be_name text) then Err BadCommand
    else address_split symbols text (length text - suffix_len is_no_plus text)

-- the number of a text, if it is one, or the address in its place
abbrev pub number_or : Option ℕ → NumberRead → NumberRead
number_or None named = named
number_or (Some number) named = Ok number

-- an address: a number, or a symbol with or without an offset
unfoldable pub address_meant : List SymbolValue → List ℕ → NumberRead
address_meant symbols text = number_or (read_address text) (named_address symbols text)
