use Rattle.sched_text.proofs.Agreement.{spoils_of, choices_of-spoiled}
use Rattle.sched_text.proofs.laws.refused_as_spoiled.Goals as goal

pub returns : goal.returns
returns c = λ harts text fault few.
    (λ read. spoils_of harts text fault few read, λ spoiled. choices_of-spoiled harts text fault few spoiled)
