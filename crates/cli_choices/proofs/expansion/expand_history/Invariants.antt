use Rattle.std.proofs.Common.{◌≡◌, take}
use Rattle.history.specs.History.{expanded}
use Rattle.cli_choices.proofs.expansion.expand_history.Given as goal

abbrev pub invariant-entries : goal.invariant-entries
invariant-entries g l = l.choices.items ≡ expanded (take l.entry-index l.history)
