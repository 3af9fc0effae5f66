use Rattle.std.proofs.Common.{List}
use Rattle.machine.specs.declared.choice.Choice.{Choice}
use Rattle.cmd_trace.specs.Cursor.{Has}
use Rattle.cmd_trace.specs.Teller.{Skips, place}
use Rattle.cmd_trace.proofs.teller.Teller.skip.Given as goal

abbrev pub invariant-choices : goal.invariant-choices
invariant-choices g l =
    (left : List Choice) → Has l.fn.self.cursor left → Skips l.done (place l.fn.self.machine l.fn.self.endings) (place l.self.machine l.self.endings) 0 l.self.cursor left
