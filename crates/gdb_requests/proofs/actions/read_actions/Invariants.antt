use Rattle.std.proofs.Common.{◌≡◌, length}
use Rattle.gdb_requests.specs.Actions.{actions_of}
use Rattle.gdb_requests.proofs.ListLemmas.{front_and}
use Rattle.gdb_requests.proofs.actions.read_actions.Given as goal

-- the actions so far, and those that are left
abbrev pub invariant-parts : goal.invariant-parts
invariant-parts g l = front_and l.actions.items (actions_of l.rest) ≡ actions_of l.list

abbrev pub decreases-parts : goal.decreases-parts
decreases-parts g l = length l.rest
