-- How many threads may do runs at a time.
use Rattle.std.specs.Prelude.{ℕ, ◌≤◌, ◌*◌, max}
use Rattle.campaign_runs.specs.declared.jobs.Jobs.{Jobs}
use Rattle.campaign_runs.specs.declared.jobs.Jobs.TheVariants.{ForProcessors, AtMost}

-- seeds in pieces of at least so many are no more pieces than may be taken at a time
abbrev pub AreFew : Jobs → ℕ → ℕ → Type 0
AreFew ForProcessors seeds piece = Unit {0}
AreFew (AtMost most) seeds piece = seeds ≤ piece * max 1 most
