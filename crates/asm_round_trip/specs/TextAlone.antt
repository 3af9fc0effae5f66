-- Programs that have only a text.
use Rattle.std.specs.Prelude.{ℕ, List, []}
use Rattle.asm_assemble.specs.Program.{ProgramValue}
use Rattle.asm_assemble.specs.Program.{text_start}

-- the program of this text: no data, no zeros, no symbols
abbrev pub text_alone : List ℕ → ProgramValue
text_alone bytes = record { text = bytes; bytes = []; zeros = 0; symbols = []; entry = text_start }
