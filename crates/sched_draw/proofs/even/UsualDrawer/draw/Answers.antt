use Rattle.std.proofs.Common.{ℕ, ◌/◌, ◌%◌, ◌==◌, ap}
use Rattle.machine.specs.declared.choice.Choice.{Choice}
use Rattle.sched_draw.specs.Seeds.{usual_choice_of_word}
use Rattle.sched_draw.proofs.SeedLemmas.{drawn-next}
use Rattle.sched_draw.proofs.even.UsualDrawer.draw.Goals as goal

pub returns-clause-draws : goal.returns-clause-draws
unfolding usual_choice_of_word
returns-clause-draws c = λ n.
    drawn-next c.args.self.now.harts n c.args.self.now.generator c.next_word-word.new.self c.next_word-word.result
    (record { hart = c.hart_of_word.result; refuse = c.next_word-word.result / 65536 % 16 == 0 }) c.next_word-word.ensures
    (ap {A = ℕ} {B = Choice} (λ h. record { hart = h; refuse = c.next_word-word.result / 65536 % 16 == 0 }) c.hart_of_word.ensures)
