use Rattle.std.proofs.Common.{◌≡◌, ◌+◌, ◌++◌, drop, length}
use Rattle.debug_session.specs.Paged.{paged_world}
use Rattle.debug_session.specs.Steps.{steps_from}
use Rattle.debug_session.proofs.step_view.views_of.Given as goal

abbrev pub invariant-steps : goal.invariant-steps
invariant-steps g l = record {
  counted : l.cost ≡ l.i;
  harts : length (paged_world l.machine).harts ≡ length (paged_world l.fn.machine).harts;
  left : l.views.items ++ steps_from (paged_world l.machine) (l.first + l.i) (drop l.i l.choices) ≡ steps_from (paged_world l.fn.machine) l.first l.choices;
}
