use Rattle.std.proofs.Common.{ap, sym, subst, ◌≢◌, ◌∙◌}
use Rattle.sched_draw.specs.Bursts.{BurstDrawing, in_burst}
use Rattle.sched_draw.proofs.BurstLemmas.{drawn, same}
use Rattle.sched_draw.proofs.bursts.Bursts.begin_burst.Goals as goal

pub returns-then-self-eq0-clause-state : goal.returns-then-self-eq0-clause-state
returns-then-self-eq0-clause-state c =
    let d : BurstDrawing = record {
      harts = c.self.inside.harts;
      mean = c.self.inside.mean;
      refusals = c.self.inside.refusals;
      hart = c.self.inside.hart;
      left = c.self.inside.left;
      generator = c.self.inside.generator;
    } in
    drawn d c.next_word.result c.next_word-then-self-eq0.result c.next_word.new.self c.next_word-then-self-eq0.new.self
    c.if-self-eq0.true c.next_word.ensures c.next_word-then-self-eq0.ensures c.self.invariant.1
    ∙ ap in_burst c.self.view_is

pub returns-else-self-eq0-clause-state : goal.returns-else-self-eq0-clause-state
returns-else-self-eq0-clause-state c =
    sym (same c.args.self.now (subst (λ (d : BurstDrawing). d.left ≢ 0) c.self.view_is c.if-self-eq0.false))
