use Rattle.sched_text.proofs.Agreement.{choices_of-spelled}
use Rattle.sched_text.proofs.PrintLemmas.{text_spells}
use Rattle.sched_text.specs.Printing.{choices_text}
use Rattle.sched_text.proofs.laws.printed_is_read.Goals as goal

pub returns : goal.returns
returns c = λ harts choices few within.
    choices_of-spelled harts (choices_text choices) choices few (text_spells harts choices few within)
