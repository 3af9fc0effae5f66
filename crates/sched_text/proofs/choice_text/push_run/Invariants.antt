use Rattle.std.proofs.Common.{◌≡◌, ◌++◌, replicate}
use Rattle.sched_text.proofs.choice_text.push_run.Given as goal

abbrev pub invariant-choices : goal.invariant-choices
invariant-choices g l = l.choices.items ≡ l.fn.choices.items ++ replicate l.counter l.run.choice
