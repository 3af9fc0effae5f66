use Rattle.std.proofs.Common.{◌∙◌}
use Rattle.campaign_runs.specs.Runs.{all_endings}
use Rattle.cmd_campaign.proofs.TallyLemmas.{as_many, tallied}
use Rattle.cmd_campaign.proofs.laws.all_seeds_are_counted.Goals as goal

pub returns : goal.returns
returns c = λ campaign image inputs. tallied (all_endings campaign image inputs) ∙ as_many campaign image inputs
