use Rattle.std.proofs.Common.{ap, ◌∙◌}
use Rattle.hart_reservations.specs.Marks.{Marks, names}
use Rattle.debug_session.proofs.touching.succeeds.Goals as goal

pub returns : goal.returns
returns g c =
    rw c.if-choice.false
    (c.holds.ensures
    ∙ ap (λ (r : Marks). names (r c.args.choice.hart) c.args.address) c.reserve.ensures)
