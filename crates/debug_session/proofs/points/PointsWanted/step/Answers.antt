use Rattle.debug_session.specs.Paged.{paged_world}
use Rattle.debug_session.specs.Points.{watched_words}
use Rattle.debug_session.proofs.StopLemmas.{stop_is}
use Rattle.debug_session.proofs.points.PointsWanted.step.Goals as goal

pub returns-clause-reason : goal.returns-clause-reason
returns-clause-reason g c =
    stop_is c.args.self.now.breaks.keys (watched_words c.args.self.now.watches) (paged_world c.args.machine.now) (paged_world c.step.new.self) c.args.choice _ _ _ _ _ _ _ _ _
    c.in_ok-step.ensures.ok c.args.self.now.watches.aligned c.accessed-access.ensures c.if_place-placed.ensures c.may_change-word.ensures.word
    c.word_if-before.ensures c.if_changed-changed.ensures c.if_runs-made.ensures c.hit-hit.ensures c.break_of.ensures c.stop_for.ensures
