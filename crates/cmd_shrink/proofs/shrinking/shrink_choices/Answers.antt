use Rattle.cmd_shrink.proofs.EachLemmas.{each_of_passes}
use Rattle.cmd_shrink.proofs.shrinking.shrink_choices.Goals as goal

pub returns-clause-less : goal.returns-clause-less
returns-clause-less g c =
    each_of_passes c.in_ok-end.end c.args.given.now c.in_ok-beginning.beginning.items c.in_ok-fewer.fewer.items
    c.in_ok-plainer.plainer.items c.in_ok-minimal.minimal.items c.in_ok-beginning.ensures.items c.in_ok-fewer.ensures.less
    c.in_ok-plainer.ensures.less c.in_ok-minimal.ensures.less
