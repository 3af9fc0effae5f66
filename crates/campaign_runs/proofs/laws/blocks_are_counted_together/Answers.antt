use Rattle.std.proofs.Common.{[], sym}
use Rattle.campaign_runs.proofs.TallyLemmas.{tally_onto-append}
use Rattle.campaign_runs.proofs.laws.blocks_are_counted_together.Goals as goal

pub returns : goal.returns
returns c = λ before block. sym (tally_onto-append [] before block)
