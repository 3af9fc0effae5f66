-- The seeds that a campaign has still to run.
use Rattle.std.specs.Prelude.{ℕ, ◌+◌, ◌-◌, List}
use Rattle.std.specs.List.{range_with_len}
use Rattle.campaign_runs.specs.declared.seeds.Seeds.{Seeds}

-- the seeds that are left, in order
abbrev pub seeds_left : Seeds → List ℕ
seeds_left seeds = range_with_len (seeds.first + seeds.done) (seeds.count - seeds.done)
