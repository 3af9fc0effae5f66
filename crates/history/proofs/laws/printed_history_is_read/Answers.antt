use Rattle.history.proofs.Agreement.{entries_of-spelled}
use Rattle.history.proofs.PrintLemmas.{history_spells}
use Rattle.history.specs.Printing.{history_text}
use Rattle.history.proofs.laws.printed_history_is_read.Goals as goal

pub returns : goal.returns
returns c = λ harts entries few there small.
    entries_of-spelled harts (history_text entries) entries few (history_spells harts entries few there small)
