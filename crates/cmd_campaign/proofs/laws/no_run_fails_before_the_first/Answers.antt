use Rattle.cmd_campaign.proofs.UntilLemmas.{is_first, none_failed, same_seed}
use Rattle.cmd_campaign.proofs.laws.no_run_fails_before_the_first.Goals as goal

pub returns-clause-first : goal.returns-clause-first
returns-clause-first c = λ exit ends end is. is_first exit ends end is

pub returns-clause-none : goal.returns-clause-none
returns-clause-none c = λ exit ends none. none_failed exit ends none

pub returns-clause-seed : goal.returns-clause-seed
returns-clause-seed c = λ form exit seeds ends. same_seed exit form seeds ends
