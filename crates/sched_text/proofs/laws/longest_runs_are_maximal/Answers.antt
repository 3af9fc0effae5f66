use Rattle.sched_text.proofs.LongestLemmas.{longest}
use Rattle.sched_text.proofs.laws.longest_runs_are_maximal.Goals as goal

pub returns : goal.returns
returns c = longest
