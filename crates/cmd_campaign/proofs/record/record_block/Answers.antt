use Rattle.cmd_campaign.proofs.ReportLemmas.{is_summary, nothing_written}
use Rattle.cmd_campaign.proofs.record.record_block.Goals as goal

pub returns-in-Summary-clause-written : goal.returns-in-Summary-clause-written
returns-in-Summary-clause-written g c =
    nothing_written c.args.campaign.form c.args.campaign.expect.exit c.count_block.result c.args.campaign.report _ _
    (is_summary c.args.campaign.report c.in-Summary.is)
