use Rattle.std.proofs.Common.{◌∙◌}
use Rattle.campaign_runs.proofs.RunLemmas.{endings-started}
use Rattle.campaign_runs.proofs.block.run_block_alone.Goals as goal

-- the machine that each run begins with a copy of is at the program's beginning
pub returns : goal.returns
returns g c =
    c.in_ok-ends.ensures ∙ endings-started c.args.campaign c.args.image.now c.args.inputs.now _ _ c.in_ok-start.ensures.begun
