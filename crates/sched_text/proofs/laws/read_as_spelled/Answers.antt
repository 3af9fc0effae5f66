use Rattle.sched_text.proofs.Agreement.{spells_of, choices_of-spelled}
use Rattle.sched_text.proofs.laws.read_as_spelled.Goals as goal

pub returns : goal.returns
returns c = λ harts text choices few.
    (λ read. spells_of harts text choices few read, λ spelled. choices_of-spelled harts text choices few spelled)
