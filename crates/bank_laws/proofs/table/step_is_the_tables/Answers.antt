use Rattle.bank_laws.proofs.StepLemmas.{step_shows}
use Rattle.bank_laws.proofs.table.step_is_the_tables.Goals as goal

pub returns : goal.returns
returns c = step_shows
