use Rattle.cmd_schedule.proofs.TextLemmas.{ends_as_told}
use Rattle.cmd_schedule.proofs.laws.written_seeds_end_as_told.Goals as goal

pub returns : goal.returns
returns c = λ campaign image inputs seed startable. ends_as_told campaign image inputs seed startable
