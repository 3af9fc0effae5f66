use Rattle.bank_laws.proofs.WorldLemmas.{run_shows}
use Rattle.bank_laws.proofs.runs.run_is_the_tables.Goals as goal

pub returns : goal.returns
returns c = run_shows
