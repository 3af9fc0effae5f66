use Rattle.thread_run.proofs.SeatLemmas.{sound_after}
use Rattle.thread_run.proofs.seat.Seat.commit.Goals as goal

pub returns-in-Ok-clause-committed : goal.returns-in-Ok-clause-committed
returns-in-Ok-clause-committed g c = record {
  before = c.deref_mut.result.now;
  after = c.present_to.new.book;
  sound = (c.present_to.ensures.sound, sound_after _ _ _ _ c.in-Ok.ensures.presented c.present_to.ensures.sound);
  presented = c.in-Ok.ensures.presented;
}

pub returns-clause-fault : goal.returns-clause-fault
returns-clause-fault g c = record {
  book = c.deref_mut.result.now;
  sound = c.present_to.ensures.sound;
  why = c.in-Err.fault;
  refuses = c.in-Err.ensures.fault;
  reported = c.from.ensures;
}
