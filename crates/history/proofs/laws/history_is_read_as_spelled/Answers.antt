use Rattle.history.proofs.Agreement.{spells_of, entries_of-spelled}
use Rattle.history.proofs.laws.history_is_read_as_spelled.Goals as goal

pub returns : goal.returns
returns c = λ harts text entries few.
    (λ read. spells_of harts text entries few read, λ spelled. entries_of-spelled harts text entries few spelled)
