use Rattle.std.proofs.Common.{◌≡◌, ◌++◌, string_bytes, drop, map}
use Rattle.campaign_runs.specs.Runs.{seed_ending}
use Rattle.cmd_campaign.specs.Lines.{report_entries}
use Rattle.cmd_campaign.proofs.lines.push_lines.Given as goal

-- the text so far, and then the lines that are left
abbrev pub invariant-ends : goal.invariant-ends
invariant-ends g l =
    string_bytes l.text ++ report_entries l.form l.report l.expect.exit (map seed_ending (drop l.end-index l.ends))
    ≡ string_bytes l.initial.text ++ report_entries l.form l.report l.expect.exit (map seed_ending l.ends)
