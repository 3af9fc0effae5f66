use Rattle.std.proofs.Common.{◌<◌, length}
use Rattle.explore_bounds.proofs.rounds.goes_round.Given as goal

-- a key is there
abbrev pub invariant-there : goal.invariant-there
invariant-there g l = l.at < length l.rows
