use Rattle.std.proofs.Common.{◌≡◌, drop, map}
use Rattle.campaign_runs.specs.Runs.{seed_ending}
use Rattle.cmd_campaign.specs.Until.{first_failing}
use Rattle.cmd_campaign.proofs.until.first_failing.Given as goal

-- none so far
abbrev pub invariant-ends : goal.invariant-ends
invariant-ends g l = first_failing l.expect.exit (map seed_ending (drop l.end-index l.ends)) ≡ first_failing l.expect.exit (map seed_ending l.ends)
