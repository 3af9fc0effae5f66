use Rattle.cmd_campaign.proofs.TallyLemmas.{one_seed_more}
use Rattle.cmd_campaign.proofs.TallyLemmas.{one_end_more}
use Rattle.cmd_campaign.proofs.record.count_ends_of.Goals as goal

pub ends-preserved : goal.ends-preserved
ends-preserved g c = record {
  rows = one_end_more c.args.ends.now c.ends.end-index c.end-item.result c.ends-test.true c.end-item.is _ c.in_ok-ending.ensures _ _ _
      c.in_ok-add.ensures c.ends.invariant.rows;
  seeds = one_seed_more _ _ _ _ c.ends.end-index c.in_ok-add.ensures c.ends.invariant.seeds;
}
