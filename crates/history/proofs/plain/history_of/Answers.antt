use Rattle.history.proofs.PlainLemmas.{expands}
use Rattle.history.proofs.plain.history_of.Goals as goal

pub returns-clause-choices : goal.returns-clause-choices
returns-clause-choices g c = expands c.in_ok-history.history.items c.args.choices.now c.in_ok-history.ensures
