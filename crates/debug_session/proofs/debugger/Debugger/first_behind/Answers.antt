use Rattle.std.proofs.Common.{None, rules, arith, ◌+◌, ◌∙◌, sym}
use Rattle.debug_session.specs.Paged.{paged_world}
use Rattle.debug_session.specs.Session.{session, reason_at}
use Rattle.debug_session.proofs.TrackLemmas.{one_hart, reached-next}
use Rattle.debug_session.proofs.FoundLemmas.{reason_is, first_here, first_later, first_end}
use Rattle.debug_session.proofs.SearchLemmas.{found_from_is_least}
use Rattle.debug_session.proofs.debugger.Debugger.first_behind.Goals as goal

pub step-requires : goal.step-requires
step-requires g c =
    let track = c.args.self.now.track in
    one_hart track.image track.inputs track.choices.items c.steps.position c.steps.position (paged_world c.steps.machine) c.index-choice.result.now
    c.steps.invariant.world track.harts (search rules) (search rules)

pub returns-then-is_some-clause-found : goal.returns-then-is_some-clause-found
returns-then-is_some-clause-found g c =
    first_here (reason_at (g.W.Wanted.reason c.args.wanted.now) (session c.args.self.now)) c.steps.position c.len-length.result c.in_ok-reason.reason _ (search rules)
    (reason_is (g.W.Wanted.reason c.args.wanted.now) (session c.args.self.now) c.steps.position (paged_world c.steps.machine) c.index-choice.result.now c.in_ok-reason.reason
    (omega (arith, c.steps-test.true, c.len-length.ensures)) (search rules) c.steps.invariant.world c.in_ok-reason.ensures.reason)
    (sym c.is_some.ensures ∙ c.if-is_some.true) c.steps.invariant.left

pub returns-then-is_some-clause-world : goal.returns-then-is_some-clause-world
returns-then-is_some-clause-world g c =
    let track = c.args.self.now.track in
    reached-next track.image track.inputs track.choices.items c.steps.position (paged_world c.steps.machine) (paged_world c.step.new.machine) c.index-choice.result.now
    (search rules) (search rules) c.steps.invariant.world c.in_ok-reason.ensures.world

pub returns-then-is_some-clause-inside : goal.returns-then-is_some-clause-inside
returns-then-is_some-clause-inside g c = omega (arith, c.steps-test.true)

pub steps-preserved : goal.steps-preserved
steps-preserved g c =
    let track = c.args.self.now.track in
    record {
      world = reached-next track.image track.inputs track.choices.items c.steps.position (paged_world c.steps.machine) (paged_world c.step.new.machine) c.index-choice.result.now
          (search rules) (search rules) c.steps.invariant.world c.in_ok-reason.ensures.world;
      counted = omega (arith, c.steps.invariant.counted);
      left = first_later (reason_at (g.W.Wanted.reason c.args.wanted.now) (session c.args.self.now)) c.steps.position c.len-length.result c.in_ok-reason.reason _ (search rules)
          (reason_is (g.W.Wanted.reason c.args.wanted.now) (session c.args.self.now) c.steps.position (paged_world c.steps.machine) c.index-choice.result.now c.in_ok-reason.reason
          (search rules) (search rules) c.steps.invariant.world c.in_ok-reason.ensures.reason)
          (sym c.is_some.ensures ∙ c.if-is_some.false) c.steps.invariant.left;
    }

pub returns-clause-found : goal.returns-clause-found
returns-clause-found g c =
    first_end (reason_at (g.W.Wanted.reason c.args.wanted.now) (session c.args.self.now)) c.steps.position c.len-length.result _ (search rules) (search rules) c.steps.invariant.left

pub returns-then-is_some-clause-least : goal.returns-then-is_some-clause-least
returns-then-is_some-clause-least g c =
    found_from_is_least (g.W.Wanted.reason c.args.wanted.now) (session c.args.self.now) c.args.from (c.steps.position + 1) c.in_ok-reason.reason c.requires.from
    (returns-then-is_some-clause-found g c)

pub returns-clause-least : goal.returns-clause-least
returns-clause-least g c =
    found_from_is_least (g.W.Wanted.reason c.args.wanted.now) (session c.args.self.now) c.args.from c.len-length.result None c.requires.from
    (returns-clause-found g c)
