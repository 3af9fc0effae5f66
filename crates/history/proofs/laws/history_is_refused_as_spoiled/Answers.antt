use Rattle.history.proofs.Agreement.{spoils_of, entries_of-spoiled}
use Rattle.history.proofs.laws.history_is_refused_as_spoiled.Goals as goal

pub returns : goal.returns
returns c = λ harts text fault few.
    (λ read. spoils_of harts text fault few read, λ spoiled. entries_of-spoiled harts text fault few spoiled)
