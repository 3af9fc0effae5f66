use Rattle.std.proofs.Common.{◌<◌, length}
use Rattle.explore_bounds.proofs.BoundLemmas.{LeadsAlong}
use Rattle.explore_bounds.proofs.rounds.round_by.Given as goal

-- turns lead here
abbrev pub invariant-turns : goal.invariant-turns
invariant-turns g l = record {
  there : l.at < length l.rows;
  along : LeadsAlong l.turns l.hart l.rows l.steps l.first l.at l.total;
}
