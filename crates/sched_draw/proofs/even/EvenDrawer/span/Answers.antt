use Rattle.std.proofs.Common.{arith}
use Rattle.sched_draw.proofs.RefusalLemmas.{drawn-within}
use Rattle.sched_draw.proofs.even.EvenDrawer.span.Goals as goal

pub returns-clause-among : goal.returns-clause-among
returns-clause-among c = λ step n i choice below.
    (omega arith, drawn-within c.args.self.now.refusals c.args.self.now.harts n c.args.self.now.generator c.args.self.now.some i choice below)
