use Rattle.std.proofs.Common.{◌≡◌, ◌+◌, ◌-◌, ◌^◌, ℕ, false, List, cond, length}
use Rattle.explore_laws.specs.Places.{Place}
use Rattle.explore_search.specs.Edges.{HaveEdges}
use Rattle.explore_bounds.specs.Numbers.{AreSettled, AreTaken, HasOver, room}
use Rattle.explore_bounds.specs.Steps.{HaveSteps}
use Rattle.explore_bounds.proofs.bound.raise_all.Given as goal

-- where no number was raised, all are settled, and none is over the limit
abbrev pub invariant-passes : goal.invariant-passes
invariant-passes g l = record {
  even : length l.numbers ≡ length l.fn.numbers;
  even_via : length l.via ≡ length l.fn.via;
  settled : l.is_more ≡ false → AreSettled l.turns l.hart l.rows l.steps l.numbers 0;
  under : l.is_more ≡ false → HasOver l.limit l.numbers false;
  taken : (place : List ℕ → Place) (keys : List (List ℕ)) → HaveEdges place l.turns keys l.rows → HaveSteps place l.turns keys l.steps
      → AreTaken l.turns l.hart place keys l.fn.numbers → AreTaken l.turns l.hart place keys l.numbers;
}

-- each pass raises a number, or is the last one
abbrev pub decreases-passes : goal.decreases-passes
decreases-passes g l = room (2 ^ 64 - 1) l.numbers + cond l.is_more 1 0
