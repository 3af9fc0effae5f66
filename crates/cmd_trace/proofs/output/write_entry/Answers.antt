use Rattle.std.proofs.Common.{◌++◌}
use Rattle.cmd_trace.specs.Trace.{choice_entry}
use Rattle.cmd_trace.proofs.OutputLemmas.{sent_none, waits_more}
use Rattle.cmd_trace.proofs.output.write_entry.Goals as goal

pub returns-in-Err-clause-begun : goal.returns-in-Err-clause-begun
returns-in-Err-clause-begun g c all start rest s =
    sent_none all c.args.buffer.now.items (choice_entry c.args.page.now c.args.explained.now c.args.k ++ rest) start (g.K.Sink.held c.args.sink.now) s

pub returns-in-Err-flush-clause-begun : goal.returns-in-Err-flush-clause-begun
returns-in-Err-flush-clause-begun g c all start rest s =
    c.in-Err-flush.ensures.begun all start rest
    (waits_more all c.args.buffer.now.items c.push_entry.new.buffer.items (choice_entry c.args.page.now c.args.explained.now c.args.k) rest start
    (g.K.Sink.held c.args.sink.now) c.in-Ok.ensures s)
