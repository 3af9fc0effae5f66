use Rattle.std.proofs.Common.{◌+◌, length, ap, ◌∙◌}
use Rattle.std.proofs.lemmas.List.{length-append}
use Rattle.std.proofs.lemmas.Option.{slice_get-get_or}
use Rattle.explore_space.specs.Habits.{habits_of}
use Rattle.explore_space.specs.Places.{place_of_key}
use Rattle.explore_space.proofs.OwnBoundLemmas.{steps_more}
use Rattle.explore_space.proofs.own_steps.take_row.Goals as goal

pub turns-preserved : goal.turns-preserved
turns-preserved g c =
    let e = c.args.explorer.now in
    record {
      count = ap length c.in_ok-push.ensures.items ∙ length-append c.turns.row.items _ ∙ ap (λ n. n + 1) c.turns.invariant.count;
      steps = steps_more c.args.turns.now
          (place_of_key (habits_of e.known.code.now) e.known.image.now (length e.inputs.now) e.known.harts.parts.items e.known.shareds.parts.items c.args.key.now)
          c.turns.row.items c.push.new.self.items c.turns.turn-index _ _ c.turns.invariant.count
          (slice_get-get_or c.args.turns.now c.turns.turn-index _ c.turns-test.true) c.in_ok-steps_in.ensures c.turns.invariant.steps
          c.in_ok-push.ensures.items;
    }
