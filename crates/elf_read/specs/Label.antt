-- The label of an address.
use Rattle.std.specs.Prelude.{ℕ, Bool, true, false, List, [], ◌∷◌, codes, Option, Some, None, ◌&&◌, ◌||◌, not, nat_le, nat_lt, nat_eq, ◌==◌, if◌then◌else◌}
use Rattle.std.specs.List.{starts_with}
use Rattle.elf_read.specs.Symbol.{SymbolValue}
use Rattle.elf_read.specs.declared.symbol.SymbolKind.{SymbolKind}
use Rattle.elf_read.specs.declared.symbol.SymbolKind.TheVariants as kinds
use Rattle.elf_read.specs.declared.symbol.SymbolPlace.{SymbolPlace}
use Rattle.elf_read.specs.declared.symbol.SymbolPlace.TheVariants as places

-- a name is that of a mapping symbol, which is no label (RISC-V ELF psABI, "Mapping Symbol")
abbrev pub is_mapping : List ℕ → Bool
is_mapping name = starts_with nat_eq name (codes "$x") || starts_with nat_eq name (codes "$d")

-- the name of a source file
abbrev pub is_file : SymbolKind → Bool
is_file kinds.File = true
is_file _ = false

-- a function or an object
abbrev pub is_thing : SymbolKind → Bool
is_thing kinds.Function = true
is_thing kinds.Object = true
is_thing _ = false

-- a value that is no place
abbrev pub is_absolute : SymbolPlace → Bool
is_absolute places.Absolute = true
is_absolute places.Elsewhere = false

-- a symbol is a label: no mapping symbol, no name of a source file, no absolute value
abbrev pub is_label : SymbolValue → Bool
is_label symbol = not (is_mapping symbol.name) && not (is_file symbol.kind) && not (is_absolute symbol.place)

-- a symbol is a label at or below an address
abbrev pub is_label_to : SymbolValue → ℕ → Bool
is_label_to symbol address = nat_le symbol.address address && is_label symbol

-- a symbol is above another one, or it is a function or an object at the same address, where the
-- other one is none
abbrev pub is_preferred : SymbolValue → SymbolValue → Bool
is_preferred best symbol =
    nat_lt best.address symbol.address
    || (best.address == symbol.address && is_thing symbol.kind && not (is_thing best.kind))

-- a symbol is a label at or below an address, and goes before another one, if there is one
abbrev pub is_nearer_label : Option SymbolValue → SymbolValue → ℕ → Bool
is_nearer_label None symbol address = is_label_to symbol address
is_nearer_label (Some best) symbol address = is_label_to symbol address && is_preferred best symbol

-- of the labels with the greatest address that is at most a given one the first function or object,
-- or the first of all if none is one; or another one, if there is no such label
abbrev pub nearest_label : Option SymbolValue → List SymbolValue → ℕ → Option SymbolValue
nearest_label best [] address = best
nearest_label best (symbol ∷ symbols) address =
    if is_nearer_label best symbol address
    then nearest_label (Some symbol) symbols address
    else nearest_label best symbols address
