-- How traced choices are written.
use Rattle.std.specs.Prelude.{ℕ, List, Option}
use Rattle.elf_read.specs.Symbol.{SymbolValue}
use Rattle.cmd_trace.specs.declared.plan.TraceForm.{TraceForm}

-- the form, the number of harts, the program's symbols, and the word whose accesses alone are written
pub record PageValue : Type 0 where
  pub form : TraceForm
  pub harts : ℕ
  pub symbols : List SymbolValue
  pub word : Option ℕ
