-- The symbol table of a written file, and its names.
use Rattle.std.specs.Prelude.{ℕ, ◌+◌, ◌%◌, ◌*◌, ◌^◌, Bool, true, false, not, if◌then◌else◌, List, [], ◌∷◌, ◌++◌, length, filter}
use Rattle.asm_statement.specs.declared.statement.Section.{Section}
use Rattle.asm_statement.specs.declared.statement.Section.TheVariants as section
use Rattle.asm_assemble.specs.Program.{SymbolList}
use Rattle.asm_assemble.specs.declared.program.Symbol.{Symbol}
use Rattle.elf_read.specs.Codes.{STB_GLOBAL}
use Rattle.elf_write.specs.Field.{bytes_of_all, zero_bytes}
use Rattle.elf_write.specs.declared.field.Field.{Field}
use Rattle.elf_write.specs.declared.field.Field.TheVariants.{Byte, Half, Word}

-- a symbol table and its names, in bytes, and the number of local symbols
pub record TablesValue : Type 0 where
  pub entries : List ℕ
  pub names : List ℕ
  pub first_global : ℕ

-- the index of a symbol's section
abbrev pub section_number : Section → ℕ
section_number section.Text = 1
section_number section.Data = 2
section_number section.Zeros = 3

-- a symbol whose name is at an offset
abbrev pub symbol_fields : ℕ → Symbol → List Field
symbol_fields place s =
    Word (place % 2 ^ 32) ∷ Word s.address ∷ Word 0
    ∷ Byte (if s.global then 16 * STB_GLOBAL else 0) ∷ Byte 0 ∷ Half (section_number s.section) ∷ []

-- the tables without symbols but the unnamed one
unfoldable pub no_symbols : TablesValue
no_symbols = record { entries = zero_bytes 16; names = 0 ∷ []; first_global = 1 }

-- one more symbol
unfoldable pub with_symbol : TablesValue → (List ℕ × Symbol) → TablesValue
with_symbol t s = record {
  entries = t.entries ++ bytes_of_all (symbol_fields (length t.names) s.1);
  names = t.names ++ (s.0 ++ 0 ∷ []);
  first_global = if s.1.global then t.first_global else (t.first_global + 1) % 2 ^ 32;
}

-- more symbols, in order
abbrev pub with_symbols : TablesValue → SymbolList → TablesValue
with_symbols t [] = t
with_symbols t (s ∷ ss) = with_symbols (with_symbol t s) ss

-- whether a symbol's binding is the wanted one: global, or local
abbrev pub is_bound : Bool → Symbol → Bool
is_bound true s = s.global
is_bound false s = not s.global

-- the global symbols, or the local ones
abbrev pub bound : Bool → SymbolList → SymbolList
bound global ss = filter (λ s. is_bound global s.1) ss

-- the tables of a program's symbols: local ones first, each group in order of definition
unfoldable pub symbol_tables : SymbolList → TablesValue
symbol_tables ss = with_symbols (with_symbols no_symbols (bound false ss)) (bound true ss)
