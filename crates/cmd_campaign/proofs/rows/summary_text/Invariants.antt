use Rattle.std.proofs.Common.{◌≡◌, ◌++◌, string_bytes, drop}
use Rattle.campaign_runs.specs.Tally.{tally_rows}
use Rattle.cmd_campaign.specs.Summary.{rows_text}
use Rattle.cmd_campaign.proofs.rows.summary_text.Given as goal

-- the text so far, and then the lines of the rows that are left
abbrev pub invariant-rows : goal.invariant-rows
invariant-rows g l =
    string_bytes l.text ++ rows_text l.form (drop l.place (tally_rows l.tally)) ≡ rows_text l.form (tally_rows l.tally)
