use Rattle.std.proofs.Common.{[], arith, ◌∙◌}
use Rattle.campaign_runs.proofs.TallyLemmas.{count_in-onto, seeds_in-onto}
use Rattle.campaign_runs.proofs.laws.each_ending_is_counted.Goals as goal

pub returns-clause-rows : goal.returns-clause-rows
returns-clause-rows c = λ all ending. count_in-onto ending all []

pub returns-clause-sum : goal.returns-clause-sum
returns-clause-sum c = λ all. seeds_in-onto [] all ∙ omega arith
