use Rattle.std.proofs.Common.{◌≡◌, arith, refl, subst, sym, ◌∙◌}
use Rattle.sched_draw.specs.Bursts.{BurstDrawing}
use Rattle.sched_draw.specs.Refusing.{is_refused}
use Rattle.sched_draw.proofs.BurstLemmas.{chosen, left_behind, same}
use Rattle.sched_draw.proofs.bursts.Bursts.go_on.Goals as goal

pub returns-clause-choice : goal.returns-clause-choice
returns-clause-choice g c =
    let some = c.requires.some in
    chosen c.args.self.now (record {
      harts = c.self.inside.harts;
      mean = c.self.inside.mean;
      refusals = c.self.inside.refusals;
      hart = c.self.inside.hart;
      left = c.self.inside.left;
      generator = c.self.inside.generator;
    })
    c.next_word-word.result c.next_word-word.new.self
    (c.self.view_is ∙ sym (same c.args.self.now (λ none. absurd (omega (arith, some, none)))))
    c.next_word-word.ensures c.does_refuse.result
    (c.does_refuse.ensures ∙ c.requires.same c.next_word-word.result
    ∙ sym (subst (λ (d : BurstDrawing). is_refused c.self.inside.refusals c.next_word-word.result ≡ is_refused d.refusals c.next_word-word.result) c.self.view_is refl))

pub returns-clause-state : goal.returns-clause-state
returns-clause-state g c =
    let some = c.requires.some in
    left_behind c.args.self.now (record {
      harts = c.self.inside.harts;
      mean = c.self.inside.mean;
      refusals = c.self.inside.refusals;
      hart = c.self.inside.hart;
      left = c.self.inside.left;
      generator = c.self.inside.generator;
    })
    c.next_word-word.result c.next_word-word.new.self
    (c.self.view_is ∙ sym (same c.args.self.now (λ none. absurd (omega (arith, some, none)))))
    c.next_word-word.ensures
