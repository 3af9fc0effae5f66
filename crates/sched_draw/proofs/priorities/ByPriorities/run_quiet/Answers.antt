use Rattle.std.proofs.Common.{sym}
use Rattle.sched_draw.proofs.RefusalLemmas.{usual-word}
use Rattle.sched_draw.proofs.priorities.ByPriorities.run_quiet.Goals as goal

pub run_first-requires-clause-same : goal.run_first-requires-clause-same
run_first-requires-clause-same g c = λ word. sym (usual-word c.args.self.now.refusals word (c.is_usual.ensures.0 c.if-is_usual.true))
