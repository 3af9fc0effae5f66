use Rattle.std.proofs.Common.{◌≡◌, drop, map}
use Rattle.campaign_runs.specs.Runs.{seed_ending}
use Rattle.cmd_campaign.specs.Status.{any_faults}
use Rattle.cmd_campaign.proofs.findings.any_faults.Given as goal

-- none so far
abbrev pub invariant-ends : goal.invariant-ends
invariant-ends g l = any_faults l.expect.exit (map seed_ending (drop l.end-index l.ends)) ≡ any_faults l.expect.exit (map seed_ending l.ends)
