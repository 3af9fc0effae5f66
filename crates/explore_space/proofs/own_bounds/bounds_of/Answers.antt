use Rattle.std.proofs.Common.{◌+◌, length, refl, ap, sym, ◌∙◌, subst, arith}
use Rattle.std.proofs.lemmas.Option.{slice_get_read}
use Rattle.std.proofs.lemmas.List.{length-append}
use Rattle.machine.specs.Start.{started}
use Rattle.machine.proofs.RunLaws.{length-started}
use Rattle.explore_laws.specs.Places.{Place}
use Rattle.explore_bounds.specs.Steps.{AreLedTo, TellsBound}
use Rattle.explore_space.specs.Begun.{settled_start, turns_start}
use Rattle.explore_space.specs.Bounds.{TellsOwn, later_by}
use Rattle.explore_space.specs.Habits.{clear_by_habit, habits_of, quiet_by_habit, stride_by_habit}
use Rattle.explore_space.specs.Places.{IsKey, place_of_key}
use Rattle.explore_space.proofs.AheadLemmas.{all_run}
use Rattle.explore_space.proofs.OwnBoundLemmas.{below_edges, led_from, some_rows, told_more, wide_edges, wide_steps}
use Rattle.explore_space.proofs.StartLemmas.{own_start, told_later}
use Rattle.explore_space.proofs.own_bounds.bounds_of.Goals as goal
use Rattle.machine.specs.Chosen.{own}
use Rattle.explore_space.proofs.BegunLemmas.{start_covers}
use Rattle.explore_space.proofs.EveryLemmas.{start_aligned}
use Rattle.explore_space.proofs.HabitLemmas.{habits_wait}

pub steps_of_turns-requires : goal.steps_of_turns-requires
steps_of_turns-requires g c = c.requires.seen.reached.are

pub own_bound-requires-clause-some : goal.own_bound-requires-clause-some
own_bound-requires-clause-some g c =
    let e = c.args.explorer.now in
    some_rows (IsKey e.known.image.now (length e.inputs.now) e.known.harts.parts.items e.known.shareds.parts.items)
    (place_of_key (habits_of e.known.code.now) e.known.image.now (length e.inputs.now) e.known.harts.parts.items e.known.shareds.parts.items)
    (turns_start (habits_of e.known.code.now) (started e.known.image.now e.inputs.now)) c.args.meant.now c.args.seen.now.keys c.args.seen.now.links.items
    c.args.seen.now.rows c.requires.seen c.requires.edges

pub own_bound-requires-clause-rows : goal.own_bound-requires-clause-rows
own_bound-requires-clause-rows g c = wide_edges _ c.args.meant.now c.args.seen.now.keys c.args.seen.now.rows c.requires.edges

pub own_bound-requires-clause-steps : goal.own_bound-requires-clause-steps
own_bound-requires-clause-steps g c = wide_steps _ c.args.meant.now c.args.seen.now.keys c.in_ok-steps.steps c.in_ok-steps.ensures

pub own_bound-requires-clause-below : goal.own_bound-requires-clause-below
own_bound-requires-clause-below g c = below_edges _ c.args.meant.now c.args.seen.now.keys c.args.seen.now.rows c.requires.edges

pub own_bound-requires-clause-even : goal.own_bound-requires-clause-even
own_bound-requires-clause-even g c =
    let steps = c.in_ok-steps.ensures.count in
    let rows = c.requires.edges.count in
    omega (arith, steps, rows)

pub harts-preserved : goal.harts-preserved
harts-preserved g c =
    let e = c.args.explorer.now in
    let keys = IsKey e.known.image.now (length e.inputs.now) e.known.harts.parts.items e.known.shareds.parts.items in
    let place = place_of_key (habits_of e.known.code.now) e.known.image.now (length e.inputs.now) e.known.harts.parts.items e.known.shareds.parts.items in
    let start = started c.args.image.now c.args.inputs.now in
    let habits = habits_of c.args.code.now in
    let first = settled_start habits.section start in
    let aligned = start_aligned c.args.image.now c.args.inputs.now c.requires.entry in
    let covers = start_covers habits start aligned in
    let hart = c.harts.hart in
    let low = c.harts-test.true in
    let end = c.harts-hart-end.ensures.harts in
    let len = length-started c.args.image.now c.args.inputs.now in
    let begun_there = slice_get_read c.in_ok-begun.begun.items (length c.in_ok-begun.begun.items) hart c.index.result.now refl
    (let count = c.in_ok-begun.ensures.count in omega (arith, low, end, count)) c.index.ensures in
    let led = subst (λ (p : Place). AreLedTo c.args.meant.now p place c.args.seen.now.keys) c.requires.first
    (led_from keys place _ c.args.meant.now c.args.seen.now.keys c.args.seen.now.links.items c.requires.seen c.requires.reaches) in
    let tells : TellsBound c.args.meant.now first start (own covers.choices hart) hart c.in_ok-bound.bound
    = c.in_ok-bound.ensures (quiet_by_habit habits) (clear_by_habit habits) (stride_by_habit habits) (habits_wait habits) first start aligned covers place
    c.args.seen.now.keys c.requires.meant.plain (c.requires.meant.each hart (omega (arith, low, end))) c.requires.clear
    led c.requires.edges c.in_ok-steps.ensures in
    record {
      count = ap length c.in_ok-push.ensures.items ∙ length-append c.harts.bounds.items _ ∙ ap (λ n. n + 1) c.harts.invariant.count;
      told = told_more c.args.meant.now start c.harts.bounds.items c.push.new.self.items hart c.in_ok-later.later c.harts.invariant.count
          (subst (TellsOwn c.args.meant.now start hart)
          (ap (later_by c.in_ok-bound.bound) (sym (c.in_ok-begun.ensures.are hart c.index.result.now begun_there)) ∙ sym c.in_ok-later.ensures)
          (told_later habits c.args.meant.now start aligned (λ h l. c.requires.meant.each h (omega (arith, l, len))) hart
          (own covers.choices hart) c.in_ok-bound.bound (omega (arith, low, end, len)) (all_run c.args.image.now c.args.inputs.now)
          (own_start habits start hart aligned (omega (arith, low, end, len))) tells))
          c.harts.invariant.told c.in_ok-push.ensures.items;
    }
