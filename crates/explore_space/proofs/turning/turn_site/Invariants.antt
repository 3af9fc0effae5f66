use Rattle.std.proofs.Common.{◌+◌, ◌*◌, ◌≤◌}
use Rattle.hart_reservations.specs.Marks.{mark_at}
use Rattle.hart_step.specs.Hart.{hart_of}
use Rattle.machine.specs.World.{World}
use Rattle.explore_sites.specs.Cells.{AreCanonical, words_shown}
use Rattle.explore_space.specs.Habits.{habits_of}
use Rattle.explore_space.specs.Places.{ShowsHart}
use Rattle.explore_space.specs.Resting.{at_once}
use Rattle.explore_space.proofs.OwnLemmas.{ComesTo}
use Rattle.explore_space.proofs.turning.turn_site.Given as goal

-- so many steps on own words are taken behind the first
abbrev pub invariant-own : goal.invariant-own
invariant-own g l = record {
  low : l.steps ≤ (1 + at_once) * (1 + l.counter);
  canonical : AreCanonical l.image l.fn.shared.cells.items → AreCanonical l.image l.shared.cells.items;
  comes : (w : World) → ShowsHart l.image w l.turn.hart (hart_of l.fn.hart) l.fn.shared
      → ComesTo (habits_of l.code) l.image w l.turn l.counter l.steps (hart_of l.hart) (words_shown l.image l.shared.cells.items) (mark_at l.shared.marks);
}
