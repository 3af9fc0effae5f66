use Rattle.std.proofs.Common.{◌≡◌, ◌-◌, ℕ, Bool, List, length}
use Rattle.machine.specs.declared.choice.Choice.{Choice}
use Rattle.explore_laws.specs.Places.{Place}
use Rattle.explore_search.specs.Edges.{HaveEdges}
use Rattle.explore_search.specs.Marked.{HaveMarkedWaysOut, MarksMore, MarksStay}
use Rattle.explore_search.proofs.marking.mark_more.Given as goal

-- the keys behind this one were looked at
abbrev pub invariant-keys : goal.invariant-keys
invariant-keys g l = record {
  even : length l.marks ≡ length l.fn.marks;
  more : MarksMore l.rows l.fn.marks l.marks (l.count - l.back) l.is_more;
  ways : (choices : List Choice) (ended : Place → Bool) (place : List ℕ → Place) (keys : List (List ℕ))
      → HaveEdges place choices keys l.rows
      → HaveMarkedWaysOut choices ended place keys l.fn.marks → HaveMarkedWaysOut choices ended place keys l.marks;
  marks_stay : MarksStay l.fn.marks l.marks;
}
