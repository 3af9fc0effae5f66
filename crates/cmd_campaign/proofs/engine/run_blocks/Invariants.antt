use Rattle.std.proofs.Common.{◌≡◌, length}
use Rattle.campaign_runs.specs.Runs.{all_endings, endings_of}
use Rattle.campaign_runs.specs.Seeds.{seeds_left}
use Rattle.campaign_runs.specs.Tally.{tally_rows}
use Rattle.cmd_campaign.proofs.BlockLemmas.{SoFar}
use Rattle.cmd_campaign.proofs.engine.run_blocks.Given as goal

abbrev pub invariant-blocks-2 : goal.invariant-blocks-2
invariant-blocks-2 g l =
    SoFar l.campaign.form l.campaign.report l.campaign.expect.exit (all_endings l.campaign l.image l.inputs)
    (endings_of l.campaign l.image l.inputs (seeds_left l.seeds))
    l.done (g.K.Sink.held l.initial.sink) (g.K.Sink.held l.sink) (tally_rows l.tally) l.found.is_broken l.found.is_faulted l.found.first_failure
    × ((g.K.Sink.failures l.sink ≡ g.K.Sink.failures l.initial.sink)
    × (g.L.Limit.never l.initial.limit → g.L.Limit.never l.limit))

-- each block takes seeds from those that are left
abbrev pub decreases-blocks-2 : goal.decreases-blocks-2
decreases-blocks-2 g l = length (seeds_left l.seeds)
