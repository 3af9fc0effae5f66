-- The program of statements.
use Rattle.std.specs.Prelude.{ℕ, ◌+◌, ◌-◌, Bool, nat_lt, List, [], Option, None, Result, Ok, if◌then◌else◌, unwrap_or, codes}
use Rattle.asm_statement.specs.Answer.{◌>>=◌}
use Rattle.asm_statement.specs.Statement.{StatementValue}
use Rattle.asm_statement.specs.declared.fault.Fault.{Fault}
use Rattle.asm_statement.specs.declared.statement.Section.TheVariants as sections
use Rattle.asm_assemble.specs.declared.cursor.Cursor.{Cursor}
use Rattle.asm_assemble.specs.Program.{text_start, program_limit}
use Rattle.asm_assemble.specs.Program.{SymbolList, ProgramValue, round_up, segment_size}
use Rattle.asm_assemble.specs.Cursors.{cursor_after}
use Rattle.asm_assemble.specs.Operands.{operand_address}
use Rattle.asm_assemble.specs.Placing.{last_sized, placing, globals_from}
use Rattle.asm_assemble.specs.Valuing.{Images, valuing, no_bytes}

-- the start of the first source, given the addresses of data and zeros
unfoldable pub start_at : ℕ → ℕ → Cursor
start_at data_at zeros_at =
    record { section = sections.Text; text_at = text_start; data_at = data_at; zeros_at = zeros_at }

-- the address of the data: the first multiple of 4096 after the text
unfoldable pub data_base : List StatementValue → ℕ
data_base ss = round_up (cursor_after (start_at 0 0) ss).text_at 4096

-- the address of the zeros: the first multiple of 4 after the data
unfoldable pub zeros_base : ℕ → List StatementValue → ℕ
zeros_base data_at ss = round_up (cursor_after (start_at data_at 0) ss).data_at 4

-- the bases of the three sections
unfoldable pub first_cursor : List StatementValue → Cursor
first_cursor ss = let data_at = data_base ss in start_at data_at (zeros_base data_at ss)

-- text and data segment are over the limit together
unfoldable pub is_too_large : Cursor → Cursor → Bool
is_too_large start end =
    nat_lt program_limit ((end.text_at - text_start)
    + segment_size (end.data_at - start.data_at) (end.zeros_at - start.zeros_at))

-- the index of the statement that gets the fault `TooLarge`
unfoldable pub heavy_of : Cursor → Cursor → List StatementValue → Option ℕ
heavy_of start end ss = if is_too_large start end then last_sized 0 start ss else None

-- the symbols of statements between two cursors, or the first fault of placing them
abbrev pub assembled_symbols : Cursor → Cursor → List StatementValue → Result SymbolList Fault
assembled_symbols start end ss = placing (globals_from [] ss) [] (heavy_of start end ss) 0 start ss

-- the symbol `_start`, else the text's base
unfoldable pub program_entry : SymbolList → ℕ
program_entry symbols = unwrap_or (operand_address symbols (codes "_start")) text_start

-- the program of these sections
unfoldable pub program_of_placed : Images → ℕ → SymbolList → ProgramValue
program_of_placed images zeros symbols = record {
  text = images.text_bytes;
  bytes = images.data_bytes;
  zeros = zeros;
  symbols = symbols;
  entry = program_entry symbols;
}

-- the program of statements, or the fault that counts: all are placed before any is evaluated
unfoldable pub assembled : List StatementValue → Result ProgramValue Fault
assembled ss = do
  let start = first_cursor ss
  let end = cursor_after start ss
  symbols ← assembled_symbols start end ss
  images ← valuing symbols [] no_bytes start ss
  Ok (program_of_placed images (end.zeros_at - start.zeros_at) symbols)
