use Rattle.cmd_campaign.proofs.StatusLemmas.{status_of_one}
use Rattle.cmd_campaign.proofs.laws.campaign_of_one_run_has_its_status.Goals as goal

pub returns : goal.returns
returns c = λ exit end. status_of_one exit end
