use Rattle.cmd_replay.proofs.KeptLemmas.{known_kept}
use Rattle.cmd_replay.proofs.replay.replay_engine.Goals as goal

pub returns-in-Ok-replay_image-clause-certified : goal.returns-in-Ok-replay_image-clause-certified
returns-in-Ok-replay_image-clause-certified g c =
    known_kept c.args.inputs.now c.args.expect _ _ _ _
    c.see_words.ensures c.in-Ok.ensures.within c.in-Ok.ensures.image c.in-Ok.ensures.opened
