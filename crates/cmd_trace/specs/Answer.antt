-- The answer of `trace` to a program and a choice text.
use Rattle.std.specs.Prelude.{ℕ, List, length}
use Rattle.std.specs.declared.result.Result.TheVariants.{Ok, Err}
use Rattle.elf_read.specs.Symbol.{SymbolValue}
use Rattle.byte_io.specs.declared.status.Status.TheVariants.{Done}
use Rattle.program_open.specs.Answers.{Answer}
use Rattle.program_open.specs.Opening.{Opened, opening}
use Rattle.program_open.specs.declared.program.ProgramForm.{ProgramForm}
use Rattle.program_named.specs.Symbols.{program_symbols}
use Rattle.cmd_trace.specs.Trace.{trace_text}
use Rattle.cmd_trace.specs.declared.plan.TracePlan.{TracePlan}

-- the answer for an opened run
abbrev pub trace_after : TracePlan → List SymbolValue → List ℕ → Opened → Answer
trace_after plan symbols inputs (Ok opened) = Ok (trace_text plan opened.0 symbols inputs opened.1, Done)
trace_after plan symbols inputs (Err why) = Err why

-- the answer for a program and a choice text
unfoldable pub trace_answer : ProgramForm → TracePlan → List ℕ → List ℕ → List ℕ → Answer
trace_answer form plan inputs program text =
    trace_after plan (program_symbols form program) inputs (opening form (length inputs) program text)
