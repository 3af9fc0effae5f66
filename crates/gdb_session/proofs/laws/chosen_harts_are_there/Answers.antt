use Rattle.gdb_session.proofs.ChosenLemmas.{still_there, read_there}
use Rattle.gdb_session.proofs.laws.chosen_harts_are_there.Goals as goal

pub returns-clause-stay : goal.returns-clause-stay
returns-clause-stay g = still_there

pub returns-clause-read : goal.returns-clause-read
returns-clause-read g = read_there
