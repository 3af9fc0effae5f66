use Rattle.std.specs.List.{range_with_len}
use Rattle.cmd_campaign.proofs.StatusLemmas.{status_unasked}
use Rattle.cmd_campaign.proofs.laws.unasked_hangs_are_no_failure.Goals as goal

pub returns : goal.returns
returns c = λ campaign image inputs exit unasked. status_unasked campaign image inputs exit unasked (range_with_len campaign.first campaign.count)
