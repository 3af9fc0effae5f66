use Rattle.std.proofs.Common.{sym, subst}
use Rattle.sched_draw.specs.Bursts.{BurstDrawing}
use Rattle.sched_draw.specs.Refusing.{IsOneIn}
use Rattle.sched_draw.proofs.RefusalLemmas.{usual-word}
use Rattle.sched_draw.proofs.bursts.Bursts.run_begun.Goals as goal

pub run_burst-requires-clause-same : goal.run_burst-requires-clause-same
run_burst-requires-clause-same g c = λ word.
    sym (usual-word c.args.self.now.refusals word
    (subst (λ (d : BurstDrawing). IsOneIn 16 d.refusals) c.self.view_is (c.is_usual.ensures.0 c.if-is_usual.true)))
