use Rattle.std.proofs.Common.{◌≡◌, ◌++◌, drop, map}
use Rattle.machine.specs.State.{state}
use Rattle.trace_text.specs.Head.{then_of}
use Rattle.cmd_trace.specs.Trace.{harts_from}
use Rattle.cmd_trace.proofs.teller.Teller.harts.Given as goal

abbrev pub invariant-harts : goal.invariant-harts
invariant-harts g l =
    map then_of l.harts.items ++ harts_from (state l.fn.self.machine).reserved l.number (drop l.number (state l.fn.self.machine).harts)
    ≡ harts_from (state l.fn.self.machine).reserved 0 (state l.fn.self.machine).harts
