use Rattle.std.proofs.Common.{◌≡◌, ◌+◌, ℕ, Bool, false, List, cond, length}
use Rattle.machine.specs.declared.choice.Choice.{Choice}
use Rattle.explore_laws.specs.Places.{Place}
use Rattle.explore_search.specs.Edges.{HaveEdges}
use Rattle.explore_search.specs.Marked.{AreShut, HaveMarkedWaysOut, MarksStay, marks_missing}
use Rattle.explore_search.proofs.marking.mark_all.Given as goal

-- where nothing was marked, nothing is left to be marked
abbrev pub invariant-passes : goal.invariant-passes
invariant-passes g l = record {
  even : length l.marks ≡ length l.fn.marks;
  shut : l.is_more ≡ false → AreShut l.rows l.marks 0;
  ways : (choices : List Choice) (ended : Place → Bool) (place : List ℕ → Place) (keys : List (List ℕ))
      → HaveEdges place choices keys l.rows
      → HaveMarkedWaysOut choices ended place keys l.fn.marks → HaveMarkedWaysOut choices ended place keys l.marks;
  marks_stay : MarksStay l.fn.marks l.marks;
}

-- each pass marks a key, or is the last one
abbrev pub decreases-passes : goal.decreases-passes
decreases-passes g l = marks_missing l.marks + cond l.is_more 1 0
