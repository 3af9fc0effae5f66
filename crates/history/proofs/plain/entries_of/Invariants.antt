use Rattle.std.proofs.Common.{◌≡◌, ◌++◌, drop, map}
use Rattle.history.specs.Plain.{plain_entry}
use Rattle.history.proofs.plain.entries_of.Given as goal

-- the entries so far, and those of the choices that are left
abbrev pub invariant-choices : goal.invariant-choices
invariant-choices g l = l.history.items ++ map plain_entry (drop l.choice-index l.choices) ≡ map plain_entry l.choices
