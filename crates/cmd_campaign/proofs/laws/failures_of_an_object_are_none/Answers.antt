use Rattle.cmd_campaign.proofs.KeptLemmas.{no_failures}
use Rattle.cmd_campaign.proofs.laws.failures_of_an_object_are_none.Goals as goal

pub returns : goal.returns
returns c = λ campaign inputs program failures may bare unasked words object. no_failures campaign inputs program failures may bare unasked words object
