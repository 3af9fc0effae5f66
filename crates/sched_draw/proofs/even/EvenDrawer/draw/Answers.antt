use Rattle.std.proofs.Common.{ℕ, ◌%◌, Bool, ap, ◌∙◌}
use Rattle.machine.specs.declared.choice.Choice.{Choice}
use Rattle.sched_draw.specs.Refusing.{choice_of_word}
use Rattle.sched_draw.proofs.RefusalLemmas.{drawn-next}
use Rattle.sched_draw.proofs.even.EvenDrawer.draw.Goals as goal

pub returns-clause-draws : goal.returns-clause-draws
unfolding choice_of_word
returns-clause-draws c = λ n.
    drawn-next c.args.self.now.refusals c.args.self.now.harts n c.args.self.now.generator c.next_word-word.new.self
    c.next_word-word.result (record { hart = c.hart_of_word.result; refuse = c.refuses.result }) c.next_word-word.ensures
    (ap {A = ℕ} {B = Choice} (λ h. record { hart = h; refuse = c.refuses.result }) c.hart_of_word.ensures
    ∙ ap {A = Bool} {B = Choice} (λ b. record { hart = c.next_word-word.result % c.args.self.now.harts; refuse = b }) c.refuses.ensures)
