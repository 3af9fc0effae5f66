use Rattle.machine.specs.State.{state}
use Rattle.thread_book.proofs.PresentLemmas.{entered}
use Rattle.thread_book.proofs.presenting.enter.Goals as goal

pub returns : goal.returns
returns g c =
    entered (state c.args.machine.now) (state c.put_hart.new.self) (state c.step.new.self) _ _ c.segment.view_is c.requires.there c.requires.code
    c.segment.invariant c.put_hart.ensures c.in-Ok.ensures.ok
