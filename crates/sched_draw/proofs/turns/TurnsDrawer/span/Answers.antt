use Rattle.std.proofs.Common.{arith}
use Rattle.sched_draw.proofs.TurnLemmas.{turns-within}
use Rattle.sched_draw.proofs.turns.TurnsDrawer.span.Goals as goal

pub returns-clause-among : goal.returns-clause-among
returns-clause-among c = λ step n i choice below.
    (omega arith, turns-within c.args.self.now.harts step n c.args.self.now.some i choice below)
