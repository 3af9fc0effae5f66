use Rattle.std.proofs.Common.{rules, arith, refl, ap, not, ◌∙◌, ◌≡◌, ◌+◌}
use Rattle.debug_session.specs.Paged.{paged_world}
use Rattle.debug_session.specs.Session.{session, reason_at, last_found}
use Rattle.debug_session.proofs.TrackLemmas.{one_hart, reached-next}
use Rattle.debug_session.proofs.FoundLemmas.{reason_is, last_here, last_earlier, found_there, if_any}
use Rattle.debug_session.proofs.debugger.Debugger.place_in_block.Goals as goal

pub steps-init : goal.steps-init
steps-init g c = record {
  world = c.in_ok-machine.ensures ∙ c.checkpoint.ensures;
  counted = omega arith;
  limit = c.requires.from;
  inside = omega arith;
  above = tt;
  found = refl;
}

pub step-requires : goal.step-requires
step-requires g c =
    let track = c.args.self.now.track in
    one_hart track.image track.inputs track.choices.items c.steps.position c.steps.position (paged_world c.steps.machine) c.index-choice.result.now
    c.steps.invariant.world track.harts (search rules) (search rules)

pub steps-preserved-then-is_none : goal.steps-preserved-then-is_none
steps-preserved-then-is_none g c =
    let track = c.args.self.now.track in
    record {
      world = reached-next track.image track.inputs track.choices.items c.steps.position (paged_world c.steps.machine) (paged_world c.step.new.machine) c.index-choice.result.now
          (search rules) (search rules) c.steps.invariant.world c.in_ok-reason.ensures.world;
      counted = omega (arith, c.steps.invariant.counted);
      limit = omega (arith, c.steps-test.true);
      inside = omega (arith, c.steps.invariant.inside);
      above = c.steps.invariant.above;
      found = last_earlier (reason_at (g.W.Wanted.reason c.args.wanted.now) (session c.args.self.now)) c.steps.position c.in_ok-reason.reason _
          (reason_is (g.W.Wanted.reason c.args.wanted.now) (session c.args.self.now) c.steps.position (paged_world c.steps.machine) c.index-choice.result.now c.in_ok-reason.reason
          (search rules) (search rules) c.steps.invariant.world c.in_ok-reason.ensures.reason)
          (c.is_none.ensures ∙ ap not c.if-is_none.true) c.steps.invariant.found;
    }

pub steps-preserved : goal.steps-preserved
steps-preserved g c =
    let track = c.args.self.now.track in
    record {
      world = reached-next track.image track.inputs track.choices.items c.steps.position (paged_world c.steps.machine) (paged_world c.step.new.machine) c.index-choice.result.now
          (search rules) (search rules) c.steps.invariant.world c.in_ok-reason.ensures.world;
      counted = omega (arith, c.steps.invariant.counted);
      limit = omega (arith, c.steps-test.true);
      inside = omega arith;
      above = if_any c.in_ok-reason.reason _ (omega (arith, c.steps.invariant.counted));
      found = found_there (c.steps.position + 1) c.in_ok-reason.reason _ (c.is_none.ensures ∙ ap not c.if-is_none.false)
          ∙ last_here (reason_at (g.W.Wanted.reason c.args.wanted.now) (session c.args.self.now)) c.steps.position c.in_ok-reason.reason
          (reason_is (g.W.Wanted.reason c.args.wanted.now) (session c.args.self.now) c.steps.position (paged_world c.steps.machine) c.index-choice.result.now c.in_ok-reason.reason
          (search rules) (search rules) c.steps.invariant.world c.in_ok-reason.ensures.reason)
          (c.is_none.ensures ∙ ap not c.if-is_none.false);
    }

pub returns-clause-found : goal.returns-clause-found
returns-clause-found g c =
    let at : c.steps.position ≡ c.args.end = omega (arith, c.steps-test.false, c.steps.invariant.limit) in
    c.steps.invariant.found ∙ ap (last_found (reason_at (g.W.Wanted.reason c.args.wanted.now) (session c.args.self.now))) at
