use Rattle.debug_session.specs.Paged.{paged_world}
use Rattle.debug_session.proofs.TrackLemmas.{started_all, start_reached}
use Rattle.debug_session.proofs.KeptLemmas.{kept_so}
use Rattle.debug_session.proofs.debugger.Debugger.new_with_progress.Goals as goal

pub checkpoints_of-requires : goal.checkpoints_of-requires
checkpoints_of-requires g c =
    started_all c.args.image c.args.inputs _ (paged_world c.in_ok-first.first) c.in_ok-first.ensures.begun (rw c.deref.ensures.value c.requires)

pub invariant_of-track-clause-kept : goal.invariant_of-track-clause-kept
invariant_of-track-clause-kept g c =
    kept_so c.args.image c.args.inputs c.args.choices.items _ (paged_world c.in_ok-first.first) _ c.in_ok-first.ensures.begun c.deref.ensures.value
    c.in_ok-checkpoints.ensures.kept

pub invariant_of-result-clause-here : goal.invariant_of-result-clause-here
invariant_of-result-clause-here g c = start_reached c.args.image c.args.inputs c.args.choices.items (paged_world c.in_ok-first.first) c.in_ok-first.ensures.begun
