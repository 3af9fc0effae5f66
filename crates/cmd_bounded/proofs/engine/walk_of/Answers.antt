use Rattle.cmd_bounded.proofs.RunLemmas.{walk_begun}
use Rattle.cmd_bounded.proofs.engine.walk_of.Goals as goal

-- the walk is from the program's start on
pub returns : goal.returns
returns g c =
    walk_begun c.args.campaign c.args.image.now c.args.inputs.now _ _ _ c.in_ok-walk.ensures c.harts.ensures.harts c.in_ok-start.ensures.begun
