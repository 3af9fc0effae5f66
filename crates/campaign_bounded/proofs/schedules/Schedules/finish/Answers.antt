use Rattle.std.proofs.Common.{◌++◌, arith}
use Rattle.campaign_bounded.specs.Walk.{schedules_left, spot_of, through}
use Rattle.campaign_bounded.proofs.WalkLemmas.{given_early, given_last}
use Rattle.campaign_bounded.proofs.schedules.Schedules.finish.Goals as goal

pub returns-then-not-branch : goal.returns-then-not-branch
returns-then-not-branch g c =
    given_early (spot_of g.S.Store.memory c.choices.node) (spot_of g.S.Store.memory c.branch-self.new.node) c.in_ok-branch.field-0
    (schedules_left g.S.Store.memory c.choices.self) (schedules_left g.S.Store.memory c.branch-self.new.self)
    (through (spot_of g.S.Store.memory c.args.node) ++ schedules_left g.S.Store.memory c.args.self.now)
    (omega (arith, c.choices-test.true)) c.if-not-branch.true c.in_ok-branch.ensures c.choices.invariant

pub returns : goal.returns
returns g c =
    given_last (spot_of g.S.Store.memory c.choices.node) (schedules_left g.S.Store.memory c.choices.self)
    (through (spot_of g.S.Store.memory c.args.node) ++ schedules_left g.S.Store.memory c.args.self.now)
    (omega (arith, c.choices-test.false)) c.choices.invariant
