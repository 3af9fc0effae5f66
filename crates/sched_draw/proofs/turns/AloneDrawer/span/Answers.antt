use Rattle.std.proofs.Common.{arith}
use Rattle.sched_draw.proofs.TurnLemmas.{alone-named}
use Rattle.sched_draw.proofs.turns.AloneDrawer.span.Goals as goal

pub returns-clause-among : goal.returns-clause-among
returns-clause-among c = λ step n i choice below.
    let named = alone-named c.args.self.now.hart step n i choice below in
    (omega (arith, named), omega (arith, named))
