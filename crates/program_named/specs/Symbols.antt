-- The symbols of a program in each of its forms.
use Rattle.std.specs.Prelude.{ℕ, List, []}
use Rattle.std.specs.declared.result.Result.TheVariants.{Ok, Err}
use Rattle.elf_read.specs.Symbol.{SymbolValue}
use Rattle.elf_read.specs.SymbolTable.{Symbols, symbols_of}
use Rattle.program_open.specs.declared.program.ProgramForm.{ProgramForm}
use Rattle.program_open.specs.declared.program.ProgramForm.TheVariants.{Hex, Elf}

-- the symbols of a table; none if it isn't valid
abbrev pub symbols_or_none : Symbols → List SymbolValue
symbols_or_none (Ok symbols) = symbols
symbols_or_none (Err why) = []

-- the symbols of a program: words in hexadecimal have none
abbrev pub program_symbols : ProgramForm → List ℕ → List SymbolValue
program_symbols Hex bytes = []
program_symbols Elf bytes = symbols_or_none (symbols_of bytes)
