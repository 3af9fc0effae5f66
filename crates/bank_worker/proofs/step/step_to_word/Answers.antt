use Rattle.bank_worker.proofs.WorkedLemmas.{adds_step_ok}
use Rattle.bank_worker.proofs.step.step_to_word.Goals as goal

pub returns : goal.returns
returns g c =
    adds_step_ok c.commit.result c.args.log.now c.commit.new.log c.in_ok-segment.segment c.args.next.now c.commit.ensures.added c.in_ok-segment.ensures.walked
