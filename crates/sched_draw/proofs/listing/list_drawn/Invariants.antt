use Rattle.std.proofs.Common.{◌≡◌, ◌++◌, ◌-◌}
use Rattle.sched_draw.proofs.listing.list_drawn.Given as goal

-- the choices so far, and then those that are still to be drawn
abbrev pub invariant-steps : goal.invariant-steps
invariant-steps g l =
    l.choices.items ++ g.D.Drawer.drawn l.drawer l.step (l.steps - l.step) ≡ g.D.Drawer.drawn l.fn.drawer 0 l.steps
