use Rattle.std.proofs.Common.{arith}
use Rattle.sched_draw.specs.Drawn.{drawing_watched}
use Rattle.sched_draw.proofs.PriorityLemmas.{drawn-within}
use Rattle.sched_draw.proofs.priorities.ByPrioritiesChooser.span.Goals as goal

pub returns-clause-among : goal.returns-clause-among
returns-clause-among g c = λ step n w i choice below. (
  omega arith,
  drawn-within c.args.self.now.refusals c.args.harts step n (drawing_watched c.args.self.now) w c.requires.0 c.requires.1 i choice below,
)
