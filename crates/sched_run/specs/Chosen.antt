-- The harts that the array of marks stands for.
use Rattle.sched_run.specs.Harts.{Harts, marked_at}
use Rattle.sched_run.specs.declared.chosen.Chosen.{Chosen}

-- the harts that were chosen
abbrev pub harts_of : Chosen → Harts
harts_of c = marked_at c.marks
