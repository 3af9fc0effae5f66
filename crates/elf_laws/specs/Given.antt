-- The symbols that a written file gives back.
use Rattle.std.specs.Prelude.{◌≡◌, ℕ, ◌+◌, ◌^◌, ◌<◌, ◌≤◌, ◌==◌, not, true, List, [], ◌∷◌, length, map, Ok}
use Rattle.std.specs.List.{list_all}
use Rattle.std.specs.Str.{is_utf8}
use Rattle.asm_assemble.specs.Program.{ProgramValue, SymbolList}
use Rattle.asm_assemble.specs.declared.program.Symbol.{Symbol}
use Rattle.elf_read.specs.Symbol.{SymbolValue}
use Rattle.elf_read.specs.SymbolTable.{symbols_of}
use Rattle.elf_read.specs.declared.symbol.SymbolKind.TheVariants as kinds
use Rattle.elf_read.specs.declared.symbol.SymbolPlace.TheVariants as places
use Rattle.elf_laws.specs.Fields.{listed_symbols, memory_size, sections_place}

-- a name that a table of names holds: text, not empty, and with no zero byte in it
pub record IsName (name : List ℕ) : Type 0 where
  pub some : 0 < length name
  pub text : is_utf8 name ≡ true
  pub no_zero : list_all (λ b. not (b == 0)) name ≡ true

-- each symbol has such a name, and an address of 32 bits
abbrev pub AreNamed : SymbolList → Type 0
AreNamed [] = Unit {0}
AreNamed (s ∷ ss) = IsName s.0 × (s.1.address < 2 ^ 32) × AreNamed ss

-- a symbol as a file gives it: of no type, in its section
abbrev pub symbol_given : (List ℕ × Symbol) → SymbolValue
symbol_given s = record { name = s.0; address = s.1.address; kind = kinds.Unsaid; place = places.Elsewhere }

-- of a program within the limit, with such symbols, the file gives all of them, first those that
-- other files do not see, where it has fewer than 2^32 bytes
abbrev pub SymbolsComeBack : (ProgramValue → List ℕ) → Type 0
SymbolsComeBack file =
    (p : ProgramValue) → length p.text + memory_size p ≤ 2 ^ 24 → p.entry < 2 ^ 32 → AreNamed p.symbols
    → sections_place p + 280 < 2 ^ 32 → symbols_of (file p) ≡ Ok (map symbol_given (listed_symbols p.symbols))
