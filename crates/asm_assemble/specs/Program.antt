-- A program as contracts see it.
use Rattle.std.specs.Prelude.{ℕ, ◌+◌, ◌-◌, ◌*◌, ◌/◌, ◌≤◌, ◌==◌, if◌then◌else◌, List, map, length, String}
use Rattle.std.specs.String.{string_bytes}
use Rattle.asm_assemble.specs.declared.program.Symbol.{Symbol}

-- the address of the first byte of the text
abbrev pub text_start : ℕ
text_start = 0x0001_0000

-- the largest size of text and data segment together: 2^24 bytes
abbrev pub program_limit : ℕ
program_limit = 0x0100_0000

-- symbols by the bytes of their names, in order of definition
abbrev pub SymbolList : Type 0
SymbolList = List (List ℕ × Symbol)

-- the bytes of text and data, the number of zeros after them, the symbols, and the entry
pub record ProgramValue : Type 0 where
  pub text : List ℕ
  pub bytes : List ℕ
  pub zeros : ℕ
  pub symbols : SymbolList
  pub entry : ℕ

-- the entries of a map by the bytes of their names
unfoldable pub symbol_list : {A V : Type 0} → List (String A × V) → List (List ℕ × V)
symbol_list entries = map (λ e. (string_bytes e.0, e.1)) entries

-- the least multiple of the unit that is at least an address
unfoldable pub round_up : ℕ → ℕ → ℕ
round_up at unit = (at + (unit - 1)) / unit * unit

-- the size of the segment of data and zeros: zeros begin at a multiple of 4
unfoldable pub segment_size : ℕ → ℕ → ℕ
segment_size bytes zeros = if zeros == 0 then bytes else round_up bytes 4 + zeros

-- text and data segment are within the limit together
abbrev pub IsWithinLimit : List ℕ → List ℕ → ℕ → Type 0
IsWithinLimit text bytes zeros = length text + segment_size (length bytes) zeros ≤ program_limit
