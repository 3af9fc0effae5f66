use Rattle.std.proofs.Common.{ap, string_bytes, ◌∙◌}
use Rattle.sched_text.specs.Printing.{choices_text}
use Rattle.sched_draw.specs.Schedules.{choices_of}
use Rattle.cmd_schedule.proofs.TextLemmas.{made_text}
use Rattle.cmd_schedule.proofs.engine.plan_text.Goals as goal

pub returns : goal.returns
returns g c =
    made_text c.args.plan c.in_ok-choices.choices.items (string_bytes c.in_ok-text.text)
    (λ w. c.in_ok-choices.ensures w ∙ ap (choices_of c.args.plan.schedule w c.args.plan.harts) c.from.ensures)
    (c.in_ok-text.ensures.text ∙ ap choices_text c.deref.ensures.value)
