use Rattle.std.proofs.Common.{◌≡◌, drop}
use Rattle.gdb_session.specs.Resumes.{own_action}
use Rattle.gdb_session.proofs.resume.own_action.Given as goal

-- none so far
abbrev pub invariant-actions : goal.invariant-actions
invariant-actions l =
    own_action l.read l.hart (drop l.action-index l.actions)
    ≡ own_action l.read l.hart l.actions
