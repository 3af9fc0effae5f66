-- A symbol as contracts see it.
use Rattle.std.specs.Prelude.{ℕ, List}
use Rattle.elf_read.specs.declared.symbol.SymbolKind.{SymbolKind}
use Rattle.elf_read.specs.declared.symbol.SymbolPlace.{SymbolPlace}

-- the bytes of its name, its address, what it names, and where it is
pub record SymbolValue : Type 0 where
  pub name : List ℕ
  pub address : ℕ
  pub kind : SymbolKind
  pub place : SymbolPlace
