use Rattle.std.proofs.Common.{take}
use Rattle.machine.specs.Chosen.{ChooseAlike}
use Rattle.history.specs.History.{expanded}
use Rattle.history.proofs.chosen.chosen_harts.Given as goal

-- the harts of the entries so far
abbrev pub invariant-entries : goal.invariant-entries
invariant-entries g l = ChooseAlike l.chosen.items (expanded (take l.entry-index l.history))
