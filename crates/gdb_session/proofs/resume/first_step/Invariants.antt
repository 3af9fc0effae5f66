use Rattle.std.proofs.Common.{◌≡◌, drop}
use Rattle.gdb_session.specs.Resumes.{first_step}
use Rattle.gdb_session.proofs.resume.first_step.Given as goal

-- none so far
abbrev pub invariant-actions : goal.invariant-actions
invariant-actions l =
    first_step l.read l.all (drop l.action-index l.all) ≡ first_step l.read l.all l.all
