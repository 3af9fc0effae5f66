use Rattle.std.proofs.Common.{◌≡◌, ◌+◌, drop, map}
use Rattle.campaign_runs.specs.Tally.{tally_rows, seeds_in, tally_onto}
use Rattle.campaign_runs.specs.Runs.{seed_ending}
use Rattle.cmd_campaign.proofs.record.count_ends_of.Given as goal

-- the rows so far, onto which the ends that are left are counted
abbrev pub invariant-ends : goal.invariant-ends
invariant-ends g l = record {
  rows : tally_onto (tally_rows l.tally) (map seed_ending (drop l.end-index l.ends)) ≡ tally_onto (tally_rows l.initial.tally) (map seed_ending l.ends);
  seeds : seeds_in (tally_rows l.tally) ≡ seeds_in (tally_rows l.initial.tally) + l.end-index;
}
