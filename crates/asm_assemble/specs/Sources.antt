-- The program of sources.
use Rattle.std.specs.Prelude.{ℕ, List, Result}
use Rattle.asm_statement.specs.Answer.{◌>>=◌}
use Rattle.asm_statement.specs.Statements.{statements_of}
use Rattle.asm_statement.specs.declared.fault.Fault.{Fault}
use Rattle.asm_assemble.specs.Program.{ProgramValue}
use Rattle.asm_assemble.specs.Assembled.{assembled}

-- the program of sources, or the fault that counts: all are parsed before any statement is placed
unfoldable pub assembled_texts : List (List ℕ) → Result ProgramValue Fault
assembled_texts texts = statements_of texts >>= assembled
