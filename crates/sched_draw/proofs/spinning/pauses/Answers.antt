use Rattle.sched_draw.proofs.SpinLemmas.{not_paused}
use Rattle.hart_step.specs.Hart.{hart_of}
use Rattle.sched_draw.proofs.spinning.pauses.Goals as goal

pub returns-then-not-begins_pause : goal.returns-then-not-begins_pause
returns-then-not-begins_pause g c =
    not_paused (g.S.Store.memory c.args.store.now) (hart_of c.args.now.now) c.begins_pause.result c.begins_pause.ensures c.if-not-begins_pause.true
