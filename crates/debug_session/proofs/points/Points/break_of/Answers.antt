use Rattle.std.proofs.Common.{◌∙◌, sym}
use Rattle.hart_step.specs.Hart.{hart_of}
use Rattle.debug_session.proofs.StopLemmas.{stands, stands_not}
use Rattle.debug_session.proofs.points.Points.break_of.Goals as goal

pub returns-then-contains : goal.returns-then-contains
returns-then-contains g c =
    stands c.args.self.now.breaks.keys c.args.hart _ (hart_of c.hart.result.now) c.hart.ensures (sym c.contains.ensures ∙ c.if-contains.true)

pub returns-else-contains : goal.returns-else-contains
returns-else-contains g c =
    stands_not c.args.self.now.breaks.keys c.args.hart _ (hart_of c.hart.result.now) c.hart.ensures (sym c.contains.ensures ∙ c.if-contains.false)
