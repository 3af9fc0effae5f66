use Rattle.machine.specs.Machine.{world}
use Rattle.cmd_bounded.proofs.ReportLemmas.{range_reported}
use Rattle.cmd_bounded.proofs.engine.report_range.Goals as goal

pub returns : goal.returns
returns g c =
    range_reported c.args.campaign (world g.S.Store.memory c.args.start.now) c.args.inputs.now _ _ _ _ _ _ _ _ c.new-told.ensures c.in_ok-count.ensures
    c.finished-finished.ensures.status c.finished-finished.ensures.first c.finished-finished.ensures.runs c.in_ok-push_rows.ensures c.in_ok-push_covered.ensures
