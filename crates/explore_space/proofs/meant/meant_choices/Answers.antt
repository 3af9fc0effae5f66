use Rattle.std.proofs.Common.{List, ◌++◌, ap, ◌∙◌}
use Rattle.machine.specs.declared.choice.Choice.{Choice}
use Rattle.explore_space.specs.Every.{hart_choices}
use Rattle.explore_space.proofs.TurnLists.{meant_more, meant_none}
use Rattle.explore_space.proofs.meant.meant_choices.Goals as goal

pub harts-preserved : goal.harts-preserved
harts-preserved g c =
    c.in_ok-push_choices.ensures ∙ ap (λ (cs : List Choice). cs ++ hart_choices c.args.refusals c.harts.hart) c.harts.invariant
    ∙ meant_more c.args.refusals c.harts.hart

pub harts-init : goal.harts-init
harts-init g c = c.new-choices.ensures.items ∙ meant_none c.args.refusals
