use Rattle.std.proofs.Common.{◌≡◌, ◌++◌, string_bytes, drop}
use Rattle.campaign_runs.specs.Tally.{tally_rows}
use Rattle.cmd_bounded.specs.Lines.{schedules_entries}
use Rattle.cmd_bounded.proofs.rows.push_rows.Given as goal

-- the text so far, and then the lines of the rows that are left
abbrev pub invariant-rows : goal.invariant-rows
invariant-rows g l = string_bytes l.text ++ schedules_entries l.form (drop l.place (tally_rows l.tally))
    ≡ string_bytes l.initial.text ++ schedules_entries l.form (tally_rows l.tally)
