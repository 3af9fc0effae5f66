use Rattle.std.proofs.Common.{◌+◌, ◌∷◌, [], ap, ◌∙◌, length}
use Rattle.std.proofs.lemmas.List.{length-append}
use Rattle.explore_search.proofs.MarkLemmas.{ended_more}
use Rattle.explore_search.proofs.marking.mark_ended.Goals as goal

pub keys-preserved : goal.keys-preserved
keys-preserved g c = record {
  count = ap length c.in_ok-push.ensures.items ∙ length-append c.keys.marks.items (c.in_ok-has_ended.field-0 ∷ [])
      ∙ ap (λ n. n + 1) c.keys.invariant.count;
  marks = ended_more (g.S.Space.place c.args.space.now) (g.S.Space.ended c.args.space.now) c.args.seen.now.keys c.keys.marks.items
      c.push.new.self.items c.keys.number c.key.result.now c.in_ok-has_ended.field-0 c.keys.invariant.count c.key.ensures
      c.in_ok-has_ended.ensures c.in_ok-push.ensures.items c.keys.invariant.marks;
}
