use Rattle.cmd_campaign.proofs.ReportLemmas.{for_all, report_begun, report_written, runs_begun, summary_kept, summary_unwritten}
use Rattle.cmd_campaign.proofs.engine.write_report.Goals as goal

pub returns-in-Err-clause-begun : goal.returns-in-Err-clause-begun
returns-in-Err-clause-begun g c =
    for_all c.args.campaign c.args.image.now c.args.inputs.now _ _ _
    (runs_begun c.args.campaign.form c.args.campaign.expect.exit c.args.campaign.report _ _ _ c.in-Err.ensures.begun)

pub returns-in-Err-clause-whole : goal.returns-in-Err-clause-whole
returns-in-Err-clause-whole g c = λ summary other.
    summary_kept c.args.campaign.form c.args.campaign.expect.exit c.args.campaign.report _ _ _ summary c.in-Err.ensures.begun

pub returns-in-Ok-write_rows-clause-written : goal.returns-in-Ok-write_rows-clause-written
returns-in-Ok-write_rows-clause-written g c =
    report_written c.args.campaign.form c.args.campaign.expect.exit c.args.campaign.report _ _ c.in-Ok.ensures.counted _ _ _
    c.in-Ok.ensures.written c.in-Ok-write_rows.ensures.written

pub returns-clause-begun : goal.returns-clause-begun
returns-clause-begun g c = (
  _,
  (
    c.in-Ok.ensures.seeds,
    (
      c.in-Ok.ensures.all,
      report_begun c.args.campaign.form c.args.campaign.expect.exit c.args.campaign.report _ _ c.in-Ok.ensures.counted _ _ _
          c.in-Ok.ensures.written c.in-Err-write_rows.ensures.begun,
    ),
  ),
)

pub returns-clause-whole : goal.returns-clause-whole
returns-clause-whole g c = λ summary other.
    summary_unwritten c.args.campaign.form c.args.campaign.expect.exit c.args.campaign.report _ _ _ _ summary
    c.in-Ok.ensures.written (c.in-Err-write_rows.ensures.unwritten other)
