use Rattle.cmd_shrink.proofs.SwitchLemmas.{switch_none, switch_one}
use Rattle.cmd_shrink.proofs.runs.switch_before.Goals as goal

pub returns-then-choices-at-clause-counted : goal.returns-then-choices-at-clause-counted
returns-then-choices-at-clause-counted c =
    switch_none c.args.at _ _ c.args.choices.now c.requires.some c.requires.there c.if-choices-at.true

pub returns-else-choices-at-clause-counted : goal.returns-else-choices-at-clause-counted
returns-else-choices-at-clause-counted c =
    switch_one c.args.at _ _ c.args.choices.now c.requires.some c.requires.there c.if-choices-at.false
