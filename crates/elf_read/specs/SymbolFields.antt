-- What a symbol names, and where it is.
use Rattle.std.specs.Prelude.{ℕ, ◌+◌, ◌%◌, ◌==◌, if◌then◌else◌, List, slice_index}
use Rattle.elf_read.specs.Number.{word_at, half_at}
use Rattle.elf_read.specs.Symbol.{SymbolValue}
use Rattle.elf_read.specs.Codes.{ST_VALUE, ST_INFO, ST_SHNDX, STT_NOTYPE, STT_OBJECT, STT_FUNC, STT_SECTION, STT_FILE, SHN_ABS}
use Rattle.elf_read.specs.declared.symbol.SymbolKind.{SymbolKind}
use Rattle.elf_read.specs.declared.symbol.SymbolKind.TheVariants as kinds
use Rattle.elf_read.specs.declared.symbol.SymbolPlace.{SymbolPlace}
use Rattle.elf_read.specs.declared.symbol.SymbolPlace.TheVariants as places

-- what a symbol of a type names
abbrev pub kind_of_type : ℕ → SymbolKind
kind_of_type type =
    if type == STT_NOTYPE then kinds.Unsaid
    else if type == STT_OBJECT then kinds.Object
    else if type == STT_FUNC then kinds.Function
    else if type == STT_SECTION then kinds.Section
    else if type == STT_FILE then kinds.File
    else kinds.Other

-- what a symbol with this st_info names: the type is its low half
abbrev pub symbol_kind : ℕ → SymbolKind
symbol_kind info = kind_of_type (info % 16)

-- where a symbol with this st_shndx is
abbrev pub symbol_place : ℕ → SymbolPlace
symbol_place section = if section == SHN_ABS then places.Absolute else places.Elsewhere

-- the symbol at an offset, with this name
unfoldable pub read_symbol : List ℕ → ℕ → List ℕ → SymbolValue
read_symbol bytes place name = record {
  name = name;
  address = word_at bytes (place + ST_VALUE);
  kind = symbol_kind (slice_index bytes (place + ST_INFO));
  place = symbol_place (half_at bytes (place + ST_SHNDX));
}
