use Rattle.campaign_runs.proofs.WordLemmas.{object_joined}
use Rattle.campaign_runs.proofs.words.push_object.Goals as goal

pub returns : goal.returns
returns g c =
    object_joined _ _ _ _ c.args.seen c.in_ok-push_str.ensures.bytes c.in_ok-write.ensures.bytes c.in_ok-push_str-2.ensures.bytes
