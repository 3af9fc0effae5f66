-- The word whose accesses are traced.
use Rattle.std.specs.Prelude.{ℕ, ◌-◌, ◌%◌, List, Ok, Err}
use Rattle.elf_read.specs.Symbol.{SymbolValue}
use Rattle.debug_text.specs.Addresses.{NumberRead, address_meant}

-- the address of the word that has the byte at an address
abbrev pub word_around : NumberRead → NumberRead
word_around (Ok address) = Ok (address - address % 4)
word_around (Err why) = Err why

-- the word that a text means, by the symbols of a program: an address is a debugger's
abbrev pub traced_word : List SymbolValue → List ℕ → NumberRead
traced_word symbols text = word_around (address_meant symbols text)
