use Rattle.sched_text.proofs.Agreement.{choices_of-spelled}
use Rattle.sched_text.proofs.PrintLemmas.{runs_spell}
use Rattle.sched_text.specs.Printing.{runs_text}
use Rattle.sched_text.proofs.laws.printed_runs_are_read.Goals as goal

pub returns : goal.returns
returns c = λ harts choices few within.
    choices_of-spelled harts (runs_text choices) choices few (runs_spell harts choices few within)
