use Rattle.thread_run.proofs.running.Running.seat.Goals as goal

pub returns-in-Ok-clause-fresh : goal.returns-in-Ok-clause-fresh
returns-in-Ok-clause-fresh g c = c.in-Ok.ensures.fresh.local
