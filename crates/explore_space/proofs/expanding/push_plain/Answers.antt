use Rattle.std.proofs.Common.{◌∙◌}
use Rattle.explore_space.proofs.TurnLists.{plain_more}
use Rattle.explore_space.proofs.expanding.push_plain.Goals as goal

pub returns : goal.returns
returns g c =
    c.in_ok-resize.ensures.items
    ∙ plain_more c.args.choices.now.items c.args.hart c.args.count _ _ (c.len-len.ensures ∙ c.args.choices.now.ok.0) c.args.choices.now.ok.0
