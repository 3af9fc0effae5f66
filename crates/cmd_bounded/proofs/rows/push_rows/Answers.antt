use Rattle.campaign_runs.specs.Tally.{tally_rows}
use Rattle.cmd_bounded.proofs.RowLemmas.{one_row_more}
use Rattle.cmd_bounded.proofs.rows.push_rows.Goals as goal

pub rows-preserved : goal.rows-preserved
rows-preserved g c =
    one_row_more c.args.form (tally_rows c.args.tally.now) c.rows.place _ _ _ _ c.row.ensures c.in_ok-push_row.ensures c.rows.invariant
