use Rattle.std.proofs.Common.{arith}
use Rattle.sched_draw.proofs.SeedLemmas.{usual-within}
use Rattle.sched_draw.proofs.even.UsualDrawer.span.Goals as goal

pub returns-clause-among : goal.returns-clause-among
returns-clause-among c = λ step n i choice below.
    (omega arith, usual-within c.args.self.now.harts n c.args.self.now.generator c.args.self.now.some i choice below)
