-- How many threads a campaign may use.
use Rattle.std.specs.Prelude.{ℕ, List, Option, Some, None, option_and_then}
use Rattle.std.specs.Borrow.{Bor}
use Rattle.std.specs.Option.{option_map}
use Rattle.campaign_runs.specs.declared.jobs.Jobs.{Jobs}
use Rattle.campaign_runs.specs.declared.jobs.Jobs.TheVariants.{ForProcessors, AtMost}
use Rattle.cli_args.specs.Numbers.{if_nonzero, number_below}

-- the threads that a text allows: 1 to 64, and as suits the processors by default
abbrev pub jobs_of : Option (Bor (List ℕ)) → Option Jobs
jobs_of None = Some ForProcessors
jobs_of (Some text) = option_map AtMost (option_and_then if_nonzero (number_below 65 text.now))
