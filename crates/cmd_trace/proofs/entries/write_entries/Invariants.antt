use Rattle.std.proofs.Common.{◌≡◌, ℕ, ◌+◌, ◌-◌, List, Option, take}
use Rattle.machine.specs.declared.choice.Choice.{Choice}
use Rattle.trace_steps.specs.Explains.{explains}
use Rattle.cmd_trace.specs.Cursor.{Has}
use Rattle.cmd_trace.specs.Output.{SoFar}
use Rattle.cmd_trace.specs.Teller.{place}
use Rattle.cmd_trace.specs.Trace.{entries, told_count, told_entries}
use Rattle.cmd_trace.proofs.entries.write_entries.Given as goal

abbrev pub invariant-choices : goal.invariant-choices
invariant-choices g l = record {
  counted : g.K.Sink.failures l.sink ≡ g.K.Sink.failures l.fn.sink;
  so_far : (left : List Choice) (all : List ℕ) (start : Option (List ℕ)) → Has l.fn.teller.cursor left
      → SoFar all start (g.K.Sink.held l.fn.sink) l.fn.buffer.items (told_entries l.page l.span (place l.fn.teller.machine l.fn.teller.endings) left)
      → (more : List Choice) × Has l.teller.cursor more
      × SoFar all start (g.K.Sink.held l.sink) l.buffer.items
      (entries l.page (l.span.from + l.i) (explains (place l.teller.machine l.teller.endings) (l.span.from + l.i) (take (told_count l.span - l.i) more)));
}
