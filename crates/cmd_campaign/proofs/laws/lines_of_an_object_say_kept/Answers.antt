use Rattle.cmd_campaign.proofs.KeptLines.{lines_say_kept}
use Rattle.cmd_campaign.proofs.laws.lines_of_an_object_say_kept.Goals as goal

pub returns : goal.returns
returns c = λ campaign inputs program bare unasked words object. lines_say_kept campaign inputs program bare unasked words object
