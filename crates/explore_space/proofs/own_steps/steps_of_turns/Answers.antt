use Rattle.std.proofs.Common.{ℕ, ◌+◌, List, ◌∷◌, [], ◌++◌, length, ap, ◌∙◌}
use Rattle.std.proofs.lemmas.List.{length-append}
use Rattle.explore_space.specs.Habits.{habits_of}
use Rattle.explore_space.specs.Places.{place_of_key}
use Rattle.explore_space.proofs.OwnBoundLemmas.{rows_more}
use Rattle.explore_space.proofs.own_steps.steps_of_turns.Goals as goal

pub keys-preserved : goal.keys-preserved
keys-preserved g c =
    let e = c.args.explorer.now in
    record {
      count = ap length c.in_ok-push.ensures.pushed ∙ length-append c.keys.steps _ ∙ ap (λ n. n + 1) c.keys.invariant.count;
      rows = rows_more (place_of_key (habits_of e.known.code.now) e.known.image.now (length e.inputs.now) e.known.harts.parts.items e.known.shareds.parts.items) c.args.turns.now
          c.args.keys.now c.keys.steps c.push.new.self c.keys.number c.key.result.now c.take_row.new.row.items c.keys.invariant.count
          c.key.ensures c.in_ok-take_row.ensures c.keys.invariant.rows
          (c.in_ok-push.ensures.pushed ∙ ap (λ (r : List ℕ). c.keys.steps ++ r ∷ []) c.deref.ensures.value);
    }
