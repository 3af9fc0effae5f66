use Rattle.std.proofs.Common.{◌≡◌, map}
use Rattle.std.specs.List.{range_with_len}
use Rattle.machine.specs.State.{state}
use Rattle.campaign_runs.specs.Runs.{ending_from, seed_ending}
use Rattle.campaign_runs.proofs.block.run_in_order.Given as goal

-- the runs of the seeds so far
abbrev pub invariant-seeds : goal.invariant-seeds
invariant-seeds g l = map seed_ending l.ends.items
    ≡ map (ending_from (state l.start) l.campaign l.inputs) (range_with_len l.block.first l.place)
