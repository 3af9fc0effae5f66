use Rattle.std.proofs.Common.{length}
use Rattle.campaign_runs.specs.Runs.{all_endings, endings_of}
use Rattle.campaign_runs.specs.Seeds.{seeds_left}
use Rattle.cmd_campaign.proofs.UntilLemmas.{Unfailed}
use Rattle.cmd_campaign.proofs.until.find_failure.Given as goal

-- none so far
abbrev pub invariant-blocks-2 : goal.invariant-blocks-2
invariant-blocks-2 g l =
    Unfailed l.campaign.expect.exit (all_endings l.campaign l.image l.inputs) (endings_of l.campaign l.image l.inputs (seeds_left l.seeds)) l.done
    × (g.L.Limit.never l.initial.limit → g.L.Limit.never l.limit)

-- each block takes seeds from those that are left
abbrev pub decreases-blocks-2 : goal.decreases-blocks-2
decreases-blocks-2 g l = length (seeds_left l.seeds)
