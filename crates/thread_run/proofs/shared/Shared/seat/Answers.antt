use Rattle.thread_run.proofs.shared.Shared.seat.Goals as goal

pub returns-in-Ok-clause-seated : goal.returns-in-Ok-clause-seated
returns-in-Ok-clause-seated g c = record {
  book = c.deref.result.now;
  sound = c.of.ensures.sound;
  there = c.in-Ok.ensures.there;
  fresh = c.in-Ok.ensures.fresh;
}

pub returns-clause-fault : goal.returns-clause-fault
returns-clause-fault g c = record {
  book = c.deref.result.now;
  sound = c.of.ensures.sound;
  none = c.in-Err.ensures.fault;
}
