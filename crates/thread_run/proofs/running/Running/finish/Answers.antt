use Rattle.std.proofs.Common.{sym, ◌∙◌}
use Rattle.thread_run.proofs.RunningLemmas.{run_ended}
use Rattle.thread_run.proofs.running.Running.finish.Goals as goal

pub returns : goal.returns
returns g c =
    run_ended _ _ _ _ _ c.self.inside.book c.self.inside.owned.items c.self.inside.room c.self.inside.tickets.total c.self.invariant.0
    (sym (c.audit.ensures.whole c.requires.whole) ∙ c.requires.spent)
